-- `shelf::rebuild::rebuild_array` meets its contract. The loop's invariant: the first x stripes are rebuilt.
-- Assumes nothing.
use mathlib.Core.Path.{◌≡◌}
use Rattle.shelf.specs.Lent.{lent}
use Rattle.shelf.specs.below.Rebuilding.{rebuilt_to}
use Rattle.shelf.proofs.rebuild.rebuild_array.Given as goal

abbrev pub invariant-loop-x : goal.invariant-loop-x
invariant-loop-x l = l.array ≡ rebuilt_to (lent l.shelf l.initial.array l.log l.list) l.x
