-- `stripe::places::own_numbers` meets its contract. The loop's invariant: each role passed has its own number in the table.
-- Assumes nothing.
use mathlib.Core.Path.{refl}
use native.Mathlib.Omega.{arith}
use Rattle.stripe.specs.Places.{in_order}
use Rattle.stripe.proofs.Lists.{fill_step}
use Rattle.stripe.proofs.places.own_numbers.Goals as goal

pub loop-i-preserved : goal.loop-i-preserved
unfolding in_order
loop-i-preserved c = fill_step c.loop-i.n-items c.loop-i.i c.loop-i.i in_order (omega (arith, c.loop-i-test.true)) c.loop-i.invariant refl

pub returns : goal.returns
returns c i less = c.loop-i.invariant i (omega (arith, less, c.requires.d_bound, c.requires.parities_bound, c.loop-i.auto.i-end, c.loop-i-test.false))
