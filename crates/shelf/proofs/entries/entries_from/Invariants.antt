-- `shelf::entries::entries_from` meets its contract. The loop's invariant: what the list says of the indices passed is in the table, and q is the first
-- place of an address that is not passed.
-- Assumes nothing.
use mathlib.Core.Path.{◌≡◌}
use Prim.Native.Nat.{ℕ, ◌+◌, ◌*◌, ◌<◌}
use lib.ListN.{length}
use Rattle.shelf.specs.Members.{address_of}
use Rattle.shelf.specs.Words.{words}
use Rattle.shelf.specs.below.Entries.{records_in, records_of}
use Rattle.shelf.specs.below.Lists.{FirstFrom}
use Rattle.shelf.proofs.entries.entries_from.Given as goal

abbrev pub invariant-loop-i : goal.invariant-loop-i
invariant-loop-i l = record {
  long : length l.entry-items ≡ l.g.d;
  first : FirstFrom (words l.list) l.g.h l.n (l.x * l.g.d + l.i) l.q;
  read : (j : ℕ) → j < l.i → records_in l.entry-items j ≡ records_of (words l.list) l.g (address_of l.g l.x j);
}
