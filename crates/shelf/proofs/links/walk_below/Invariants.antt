-- `shelf::links::walk_below` meets its contract. The loop's invariant: y goes on behind the last place of the slot's chain that was met.
-- Assumes nothing.
use Prim.Native.Nat.{◌-◌, ◌≤◌}
use Rattle.shelf.specs.Words.{words}
use Rattle.shelf.specs.below.Rewriting.{behind}
use Rattle.shelf.proofs.hashlist.LinkLaws.{Walked}
use Rattle.shelf.proofs.links.walk_below.Given as goal

abbrev pub invariant-loop-y : goal.invariant-loop-y
invariant-loop-y l = (behind l.last ≤ l.p) × Walked (words l.list) l.h l.p l.s (behind l.last) l.y

abbrev pub decreases-loop-y : goal.decreases-loop-y
decreases-loop-y l = l.p - behind l.last
