-- `shelf::links::link_gap` meets its contract. The loop's invariant: the places of the gap from t on are linked.
-- Assumes nothing.
use Prim.Native.Nat.{◌+◌, ◌≤◌}
use Rattle.shelf.specs.Words.{words}
use Rattle.shelf.specs.below.Rewriting.{LinkedIn}
use Rattle.shelf.proofs.links.link_gap.Given as goal

abbrev pub invariant-loop-t : goal.invariant-loop-t
invariant-loop-t l = (l.p ≤ l.t) × LinkedIn l.h l.p l.t (l.p + l.c) (words l.initial.list) (words l.list)
