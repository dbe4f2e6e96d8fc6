-- What `grind` needs to try rows: a row that applies gives its number, and one that does not gives what is tried after it.
-- Assumes nothing.
use mathlib.Core.Bool.{Bool, true, false}
use mathlib.Core.Path.{◌≡◌, ap}
use Prim.Native.Nat.{ℕ}
use Rattle.std.proofs.lemmas.Bool.Decides.{nat_tests}
use Rattle.shelf.specs.Status.{row}

pub row_applies : (n : ℕ) (t : Bool) (rest : ℕ) → t ≡ true → row n t rest ≡ n
unfolding row
row_applies n t rest e = ap (λ (u : Bool). row n u rest) e

pub row_passes : (n : ℕ) (t : Bool) (rest : ℕ) → t ≡ false → row n t rest ≡ rest
unfolding row
row_passes n t rest e = ap (λ (u : Bool). row n u rest) e

pub ruleset row_rules = (row_applies, row_passes, nat_tests)
