-- Laws of the test whether two names are the same.
-- Assumes nothing.
use mathlib.Core.Bool.{Bool, false, ◌&&◌}
use mathlib.Core.List.{List, [], ◌∷◌}
use mathlib.Core.Path.{◌≡◌, refl, ap}
use Prim.Native.Nat.{ℕ, suc}
use lib.Dec.{eqb}
use lib.ListN.{length}
use lib.Pointwise.{pointwise}
use Rattle.lines.specs.Names.{same}
use Rattle.lines.proofs.TestLaws.{and_false}

-- names of different lengths are not the same
pub same-lengths : (s w : List ℕ) → (length s ≡ length w → ⊥) → same s w ≡ false
unfolding same
same-lengths [] [] h = absurd (h refl)
same-lengths [] (y ∷ ys) h = refl
same-lengths (x ∷ xs) [] h = refl
same-lengths (x ∷ xs) (y ∷ ys) h = simp (same-lengths xs ys (λ e. h (ap suc e)), and_false)

-- names are the same where they are equal element by element
pub same_pointwise : (s w : List ℕ) → pointwise eqb s w ≡ same s w
unfolding same
same_pointwise [] [] = refl
same_pointwise [] (y ∷ ys) = refl
same_pointwise (x ∷ xs) [] = refl
same_pointwise (x ∷ xs) (y ∷ ys) = ap (λ (t : Bool). eqb x y && t) (same_pointwise xs ys)
