-- `shelf::moves::move_up` meets its contract. The loop's invariant: the places from j on are moved.
-- Assumes nothing.
use Prim.Native.Nat.{◌≤◌}
use Rattle.shelf.specs.Words.{words}
use Rattle.shelf.specs.below.Rewriting.{MovedUp}
use Rattle.shelf.proofs.moves.move_up.Given as goal

abbrev pub invariant-loop-j : goal.invariant-loop-j
invariant-loop-j l = (l.p ≤ l.j) × MovedUp l.h l.p l.m l.c l.j (words l.initial.list) (words l.list)
