-- `shelf::share::share_of` meets its contract. The loop's invariant: the table has what it should for each index passed, and none for the others.
-- Assumes nothing.
use Rattle.std.specs.Prelude.{Some, None}
use mathlib.Core.Bool.{◌&&◌}
use mathlib.Core.Path.{◌≡◌}
use Prim.Native.Nat.{ℕ, ◌+◌, ◌-◌, ◌<◌, ◌≤◌}
use lib.Dec.{leb, ltb}
use lib.ListN.{length, get_or}
use Rattle.shelf.specs.Counting.{choose}
use Rattle.shelf.proofs.share.share_of.Given as goal

abbrev pub invariant-loop-i : goal.invariant-loop-i
invariant-loop-i l = record {
  long : length l.from ≡ 16;
  brought : (j : ℕ) → j < l.i
      → get_or l.from j None ≡ choose (leb l.a (l.first + j) && ltb (l.first + j) (l.a + l.n)) (Some (l.first + j - l.a)) None;
  left : (j : ℕ) → l.i ≤ j → get_or l.from j None ≡ None;
}
