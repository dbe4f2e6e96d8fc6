-- `shelf::write::write_blocks` meets its contract. The loop's invariant: the stripes before x are written.
-- Assumes nothing.
use Prim.Native.Nat.{◌-◌, ◌/◌, ◌≤◌}
use Rattle.shelf.specs.Lent.{lent}
use Rattle.shelf.specs.below.Writing.{WrittenTo}
use Rattle.shelf.proofs.write.write_blocks.Given as goal

abbrev pub invariant-loop-x : goal.invariant-loop-x
invariant-loop-x l = (l.a / l.initial.after.geometry.d ≤ l.x) × ((l.x ≤ l.end) × WrittenTo (lent l.initial.after l.initial.array l.initial.log l.initial.list) l.x l.a l.n l.source (lent l.after l.array l.log l.list))

abbrev pub decreases-loop-x : goal.decreases-loop-x
decreases-loop-x l = l.end - l.x
