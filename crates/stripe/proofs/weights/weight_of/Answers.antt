-- `stripe::weights::weight_of` meets its contract. The loop's invariant: w is the weight of as many doublings as were made.
-- Assumes nothing.
use mathlib.Core.Path.{sym, ap, ◌∙◌}
use native.Mathlib.Omega.{arith}
use Rattle.field.specs.Field.{double}
use Rattle.field.proofs.Laws.{pow2_zero, pow2_suc}
use Rattle.stripe.specs.Parity.{weight}
use Rattle.stripe.proofs.weights.weight_of.Goals as goal

pub loop-init : goal.loop-init
unfolding weight
loop-init c = sym pow2_zero

pub loop-preserved : goal.loop-preserved
unfolding weight
loop-preserved c = c.twice-w.ensures ∙ ap double c.loop.invariant ∙ sym (pow2_suc c.loop.counter) ∙ ap weight (omega arith)

pub returns : goal.returns
returns c = c.loop.invariant ∙ ap weight (omega arith)
