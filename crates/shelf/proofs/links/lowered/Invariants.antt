-- `shelf::links::lowered` meets its contract. The loop's invariant: the link led past no place of its slot that stays.
-- Assumes nothing.
use Prim.Native.Nat.{◌-◌}
use Rattle.shelf.specs.Words.{words}
use Rattle.shelf.specs.below.Rewriting.{next_behind}
use Rattle.shelf.proofs.hashlist.LinkLaws.{Passing}
use Rattle.shelf.proofs.links.lowered.Given as goal

abbrev pub invariant-loop-z : goal.invariant-loop-z
invariant-loop-z l = Passing (next_behind (words l.behind) l.p) l.p l.q l.y l.z

abbrev pub decreases-loop-z : goal.decreases-loop-z
decreases-loop-z l = l.q - l.z
