-- `shelf::entries::pack_entries` meets its contract. The loop's invariant: the entries of the indices passed that are listed are packed, n of them.
-- Assumes nothing.
use mathlib.Core.Path.{◌≡◌}
use Prim.Native.Nat.{◌≤◌}
use lib.ListN.{length, take}
use Rattle.shelf.specs.below.Writing.{packed}
use Rattle.shelf.proofs.entries.pack_entries.Given as goal

abbrev pub invariant-loop-i : goal.invariant-loop-i
invariant-loop-i l = record {
  few : l.n ≤ l.i;
  long : length l.slice ≡ 16;
  packed : take l.n l.slice ≡ packed l.i l.base l.entries;
}
