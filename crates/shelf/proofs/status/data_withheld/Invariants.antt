-- `shelf::status::data_withheld` meets its contract. The loop's invariant: in no stripe from the x-th on is a block withheld.
-- Assumes nothing.
use mathlib.Core.Path.{◌≡◌}
use Rattle.shelf.specs.Counting.{any}
use Rattle.shelf.specs.Lent.{flag_at, listed_by}
use Rattle.shelf.specs.Status.{data_withheld}
use Rattle.shelf.specs.below.Rebuilding.{withheld_at}
use Rattle.shelf.proofs.status.data_withheld.Given as goal

abbrev pub invariant-loop-x : goal.invariant-loop-x
invariant-loop-x l = any l.x (withheld_at l.shelf l.list) ≡ data_withheld l.shelf.geometry (flag_at l.shelf) (listed_by l.shelf.geometry l.list)
