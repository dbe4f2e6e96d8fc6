-- `shelf::links::scan_below` meets its contract. The loop's invariant: no place from q on, below p, is of the slot.
-- Assumes nothing.
use mathlib.Core.Logic.{◌≢◌}
use Prim.Native.Nat.{ℕ, ◌%◌, ◌<◌, ◌≤◌}
use Rattle.shelf.specs.Words.{words}
use Rattle.shelf.specs.HashList.{address_at}
use Rattle.shelf.proofs.links.scan_below.Given as goal

abbrev pub invariant-loop-q : goal.invariant-loop-q
invariant-loop-q l = (r : ℕ) → l.q ≤ r → r < l.p → address_at (words l.list) l.h r % l.h ≢ l.s
