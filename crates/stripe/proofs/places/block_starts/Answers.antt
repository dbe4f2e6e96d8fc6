-- `stripe::places::block_starts` meets its contract. The loop's invariant: each block passed has its offset in the table.
-- Assumes nothing.
use mathlib.Core.Path.{refl}
use native.Mathlib.Omega.{arith}
use Rattle.stripe.specs.Places.{offset_of}
use Rattle.stripe.proofs.Lists.{fill_step}
use Rattle.stripe.proofs.SliceLaws.{tabled_front}
use Rattle.stripe.proofs.places.block_starts.Goals as goal

pub loop-i-preserved : goal.loop-i-preserved
unfolding offset_of
loop-i-preserved c = fill_step c.loop-i.start-items c.loop-i.i _ (offset_of c.args.ns.now c.args.b) (omega (arith, c.loop-i.auto.start-items, c.loop-i-test.true)) c.loop-i.invariant refl

pub returns : goal.returns
returns c = tabled_front c.args.n c.loop-i.i (offset_of c.args.ns.now c.args.b) c.loop-i.start-items _ _ (omega arith) c.loop-i.auto.start-items c.loop-i-test.false c.loop-i.invariant
