-- Laws of parts of lists: loops over the first entries, as `for (i, x) in xs[..n].iter_mut().enumerate()`, and runs of bytes, as `a[at..at + w]`.
-- Assumes nothing.
use mathlib.Core.List.{List, ◌++◌}
use mathlib.Core.Path.{◌≡◌, sym, ap, ap₂, ◌∙◌, subst}
use Prim.Native.Nat.{ℕ, ◌+◌, ◌-◌, ◌≤◌, ◌<◌}
use native.Mathlib.Nat.{zero-add, le_refl}
use native.Mathlib.Omega.{arith}
use lib.Bits.{bit_xor}
use lib.ListN.{length, get_or, set, take, drop}
use lib.Seq.{take-append_seam}
use Rattle.std.proofs.lemmas.List.{length-take, length-take-le, get_or_append_left, get_or-take, get_or-drop, length-drop}
use Rattle.field.specs.Field.{double}
use Rattle.stripe.specs.below.Tables.{Tabled}
use Rattle.stripe.specs.below.Steps.{Starts, taken, plus, twice_plus, PutRow}
use Rattle.stripe.proofs.Lists.{Filled, filled_step}

-- xs stands for the first n entries of zs, and its first i, which are all of them, are at's
pub tabled_front : (n i : ℕ) (at : ℕ → ℕ) (xs zs ys : List ℕ) → n ≤ length zs → length xs ≡ length (take n zs) → length (take n zs) ≤ i → Tabled i at xs
    → Tabled n at (xs ++ ys)
tabled_front n i at xs zs ys fits long all t k h =
    let first : length (take n zs) ≡ n = length-take-le n zs fits in
    get_or_append_left xs ys 0 k (omega arith) ∙ t k (omega arith)

-- a place among the first n entries is below n
pub in_front : (n i : ℕ) (zs : List ℕ) → i < length (take n zs) → i < n
in_front n i zs h = omega (arith, h, length-take n zs)

-- a run of w bytes of src starts as src does from at on
pub run_taken : (at w : ℕ) (src p : List ℕ) → p ≡ take (at + w - at) (drop at src) → Starts w p (taken at src)
unfolding taken
run_taken at w src p e j h = ap (λ (l : List ℕ). get_or l j 0) e ∙ get_or-take (at + w - at) (drop at src) j 0 (omega arith) ∙ get_or-drop at src j 0

-- a row that was the first w bytes of the array zs is stored
pub row_put : (at w : ℕ) (x zs rest a₀ a : List ℕ) → w ≤ length zs → length x ≡ length (take w zs) → PutRow at (length (take w (x ++ rest))) (take w (x ++ rest)) a₀ a
    → PutRow at w x a₀ a
row_put at w x zs rest a₀ a fits e h =
    let long : length x ≡ w = e ∙ length-take-le w zs fits in
    let row : take w (x ++ rest) ≡ x = ap (λ (n : ℕ). take n (x ++ rest)) (sym long) ∙ take-append_seam x rest in
    subst (λ (n : ℕ). PutRow at n x a₀ a) long (subst (λ (r : List ℕ). PutRow at (length r) r a₀ a) row h)

-- ---- turns of a loop that adds the row to p and to twice q; and its end

pub plus_turn : (row p₀ p : List ℕ) (j : ℕ) → Filled p₀ p j (plus (taken 0 row) p₀) → j < length p₀
    → Filled p₀ (set p j (bit_xor (get_or p j 0) (get_or row j 0))) (j + 1) (plus (taken 0 row) p₀)
plus_turn row p₀ p j h l = filled_step p₀ p j (bit_xor (get_or p j 0) (get_or row j 0)) (plus (taken 0 row) p₀) h l value
  where
    value : bit_xor (get_or p j 0) (get_or row j 0) ≡ plus (taken 0 row) p₀ j
    value = unfold plus taken in ap₂ bit_xor (h.1.1 j (le_refl j)) (ap (λ (i : ℕ). get_or row i 0) (sym (zero-add j)))

pub twice_plus-turn : (row q₀ q : List ℕ) (j t : ℕ) → Filled q₀ q j (twice_plus (taken 0 row) q₀) → j < length q₀ → t ≡ double (get_or q j 0)
    → Filled q₀ (set q j (bit_xor t (get_or row j 0))) (j + 1) (twice_plus (taken 0 row) q₀)
twice_plus-turn row q₀ q j t h l u = filled_step q₀ q j (bit_xor t (get_or row j 0)) (twice_plus (taken 0 row) q₀) h l value
  where
    value : bit_xor t (get_or row j 0) ≡ twice_plus (taken 0 row) q₀ j
    value = unfold twice_plus taken in ap₂ bit_xor (u ∙ ap double (h.1.1 j (le_refl j))) (ap (λ (i : ℕ). get_or row i 0) (sym (zero-add j)))

pub turns_done : (q₀ q : List ℕ) (j w : ℕ) (f : ℕ → ℕ) → Filled q₀ q j f → w ≤ j → Starts w q f
turns_done q₀ q j w f h e k p = h.1.0 k (omega arith)

-- the run of w bytes of src from at on
abbrev pub run : ℕ → ℕ → List ℕ → List ℕ
run at w src = take (at + w - at) (drop at src)

-- ---- the row was such a run

module _ (at w : ℕ) (src : List ℕ) (fits : at + w ≤ length src) where
  whole : length (run at w src) ≡ w
  whole = length-take-le (at + w - at) (drop at src) (omega (arith, length-drop at src)) ∙ omega arith

  byte : (j : ℕ) → j < w → taken 0 (run at w src) j ≡ taken at src j
  unfolding taken
  byte j h = ap (λ (i : ℕ). get_or (run at w src) i 0) (zero-add j) ∙ get_or-take (at + w - at) (drop at src) j 0 (omega arith) ∙ get_or-drop at src j 0

  pub plus_run : (p n : List ℕ) → Starts (length (run at w src)) n (plus (taken 0 (run at w src)) p) → Starts w n (plus (taken at src) p)
  unfolding plus
  plus_run p n h j l = h j (omega (arith, whole)) ∙ ap (bit_xor (get_or p j 0)) (byte j l)

  pub twice_plus-run : (q n : List ℕ) → Starts (length (run at w src)) n (twice_plus (taken 0 (run at w src)) q) → Starts w n (twice_plus (taken at src) q)
  unfolding twice_plus
  twice_plus-run q n h j l = h j (omega (arith, whole)) ∙ ap (bit_xor (double (get_or q j 0))) (byte j l)
