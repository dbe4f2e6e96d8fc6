-- `shelf::moves::move_down` meets its contract. The loop's invariant: the places from p on, below j, are moved.
-- Assumes nothing.
use Rattle.shelf.specs.Words.{words}
use Rattle.shelf.specs.below.Rewriting.{MovedDown}
use Rattle.shelf.proofs.moves.move_down.Given as goal

abbrev pub invariant-loop-j : goal.invariant-loop-j
invariant-loop-j l = MovedDown l.h l.p l.k l.j (words l.initial.list) (words l.list)
