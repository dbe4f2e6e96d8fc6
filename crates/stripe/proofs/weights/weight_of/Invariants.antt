-- `stripe::weights::weight_of` meets its contract. The loop's invariant: w is the weight of as many doublings as were made.
-- Assumes nothing.
use mathlib.Core.Path.{◌≡◌}
use Rattle.stripe.specs.Parity.{weight}
use Rattle.stripe.proofs.weights.weight_of.Given as goal

abbrev pub invariant-loop : goal.invariant-loop
invariant-loop l = l.w ≡ weight l.counter
