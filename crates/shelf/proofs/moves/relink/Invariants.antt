-- `shelf::moves::relink` meets its contract. The loop's invariant: the places from p on are linked, those below hold what they held.
-- Assumes nothing.
use Rattle.shelf.specs.Words.{words}
use Rattle.shelf.proofs.hashlist.FillLaws.{Linked}
use Rattle.shelf.proofs.moves.relink.Given as goal

abbrev pub invariant-loop-p : goal.invariant-loop-p
invariant-loop-p l = Linked (words l.initial.list) (words l.list) l.h l.e l.m l.p
