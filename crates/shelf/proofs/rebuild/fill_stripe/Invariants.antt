-- `shelf::rebuild::fill_stripe` meets its contract. The loop's invariant: the first i data blocks are filled.
-- Assumes nothing.
use mathlib.Core.Path.{◌≡◌}
use Rattle.shelf.specs.below.Viewing.{seen}
use Rattle.shelf.specs.below.Rebuilding.{filled_to}
use Rattle.shelf.proofs.rebuild.fill_stripe.Given as goal

abbrev pub invariant-loop-i : goal.invariant-loop-i
invariant-loop-i l = l.array ≡ filled_to (seen l.view l.initial.array) l.view.x l.i
