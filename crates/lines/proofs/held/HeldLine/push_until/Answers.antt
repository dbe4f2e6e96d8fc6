-- `lines::held::HeldLine::push_until` meets its contract.
-- Assumes nothing.
use native.Mathlib.Omega.{arith}
use Rattle.std.proofs.Common.{below_more}
use Rattle.lines.proofs.HeldLaws.{extends_more}
use Rattle.lines.proofs.held.HeldLine.push_until.Goals as goal

pub loop-i-preserved : goal.loop-i-preserved
loop-i-preserved c =
    let l = c.loop-i in
    let put = c.put_byte-len.ensures in
    (put.upper_bound, (extends_more _ l.i (omega arith) l.invariant.1.0 put.extends, below_more _ _ l.invariant.1.1 c.if-x-end.false))
