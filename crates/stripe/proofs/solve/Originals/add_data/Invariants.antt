-- `stripe::solve::Originals::add_data` meets its contract. The loop's invariant: the data blocks passed are added, but x and y.
-- Assumes nothing.
use mathlib.Core.Path.{◌≡◌}
use Rattle.stripe.specs.below.Steps.{there_p}
use Rattle.stripe.specs.below.Gathering.{added}
use Rattle.stripe.proofs.solve.Originals.add_data.Given as goal

abbrev pub invariant-loop-i : goal.invariant-loop-i
invariant-loop-i l = l.work ≡ added (there_p l.i l.x l.y) l.self l.initial.work
