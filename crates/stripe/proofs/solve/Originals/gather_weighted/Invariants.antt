-- `stripe::solve::Originals::gather_weighted` meets its contract. The loop's invariant: work is the sum by Horner's rule from block i on.
-- Assumes nothing.
use mathlib.Core.Path.{◌≡◌}
use Rattle.stripe.specs.below.Gathering.{gathered}
use Rattle.stripe.proofs.SolveLaws.{standing_from}
use Rattle.stripe.proofs.solve.Originals.gather_weighted.Given as goal

abbrev pub invariant-loop-i : goal.invariant-loop-i
invariant-loop-i l = l.work ≡ gathered (standing_from l.self.d l.x l.y l.i) l.self
