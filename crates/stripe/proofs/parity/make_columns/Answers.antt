-- `stripe::parity::make_columns` meets its contract. The loop's invariant: the columns of the chunks passed are made.
-- Assumes nothing.
use mathlib.Core.Path.{◌≡◌}
use Prim.Native.Nat.{◌+◌, ◌*◌, ◌-◌, ◌≤◌}
use native.Mathlib.Omega.{arith}
use Rattle.stripe.proofs.ParityLaws.{partly_less}
use Rattle.stripe.proofs.parity.make_columns.Goals as goal

pub loop-chunk-preserved : goal.loop-chunk-preserved
loop-chunk-preserved g c =
    let a = c.args in
    let at-loop = c.loop-chunk in
    let fits : 64 * at-loop.chunk + 64 ≤ a.b = omega arith in
    partly_less a.starts.now a.d g.row.K a.b (64 * at-loop.chunk + 64) (64 * (at-loop.chunk + 1)) a.array.now _ (omega arith) (c.make_chunk.ensures a.b a.array.now fits c.requires.disjoint at-loop.invariant)

pub returns-else-b-gt64 : goal.returns-else-b-gt64
returns-else-b-gt64 g c =
    let a = c.args in
    let at-loop = c.loop-chunk in
    let none = partly_less a.starts.now a.d g.row.K a.b (64 * at-loop.chunk) 0 a.array.now at-loop.array (omega arith) at-loop.invariant in
    partly_less a.starts.now a.d g.row.K a.b (0 + a.b) a.b a.array.now _ (omega arith) (c.make_chunk-else-b-gt64.ensures a.b a.array.now (omega arith) c.requires.disjoint none)

pub returns-then-b-gt64 : goal.returns-then-b-gt64
returns-then-b-gt64 g c =
    let a = c.args in
    let at-loop = c.loop-chunk in
    let all : a.b - 64 + 64 ≡ a.b = omega arith in
    let some = partly_less a.starts.now a.d g.row.K a.b (64 * at-loop.chunk) (a.b - 64) a.array.now at-loop.array (omega arith) at-loop.invariant in
    partly_less a.starts.now a.d g.row.K a.b (a.b - 64 + 64) a.b a.array.now _ (omega (arith, all)) (c.make_chunk-then-b-gt64.ensures a.b a.array.now (omega (arith, all)) c.requires.disjoint some)

pub returns-else-b-ne0 : goal.returns-else-b-ne0
returns-else-b-ne0 g c =
    let a = c.args in
    let at-loop = c.loop-chunk in
    partly_less a.starts.now a.d g.row.K a.b (64 * at-loop.chunk) a.b a.array.now at-loop.array (omega arith) at-loop.invariant
