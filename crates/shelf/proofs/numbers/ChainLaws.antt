-- A chain of iterators over a range, or over the flags of the members, is a search or a count of the first numbers.
-- Assumes nothing.
use mathlib.Core.Bool.{Bool, true, false, ◌&&◌, ◌||◌}
use mathlib.Core.List.{List, [], ◌∷◌, ◌++◌}
use mathlib.Core.Path.{◌≡◌, refl, sym, ap, ap₂, ◌∙◌}
use Prim.Native.Nat.{ℕ, zero, suc, ◌+◌, ◌≤◌, ◌<◌}
use native.Mathlib.Omega.{arith}
use lib.Dec.{ltb}
use lib.ListN.{length, get_or, take, drop, replicate, length-drop}
use Rattle.std.proofs.Math.Seq.{take-suc}
use borrow.Author.Tests.{le-leb, lt-leb, ltb-true, ltb-false}
use Rattle.std.specs.List.{fold, list_any, range_with_len}
use Rattle.std.specs.Prelude.{count_by}
use Rattle.std.proofs.lemmas.Grind.{common_steps, elements}
use Rattle.std.proofs.lemmas.List.{get_or-drop}
use Rattle.std.proofs.lemmas.List.Folds.{list_any_more}
use Rattle.shelf.specs.Counting.{any, count, bit}
use Rattle.shelf.specs.Lent.{flag, flag_at, flag_from, flags_of}
use Rattle.shelf.specs.Calls.{array_cleared}
use Rattle.shelf.specs.below.Records.{with_cleared}
use Rattle.shelf.specs.declared.record.Shelf.{Shelf}
use Rattle.shelf.proofs.general.TestLaws.{cases, choose_true, choose_false, or_false}
use Rattle.shelf.proofs.general.CountLaws.{any_ext, none_any}
use Rattle.shelf.proofs.general.WalkLaws.{any_suc}
use Rattle.shelf.proofs.lent.LayoutLaws.{flags_are}

-- ---- over a range

or_assoc : (a b c : Bool) → ((a || b) || c) ≡ (a || (b || c))
or_assoc true b c = refl
or_assoc false b c = refl

any_first : (n : ℕ) (f : ℕ → Bool) → any (suc n) f ≡ (f 0 || any n (λ i. f (suc i)))
unfolding any
any_first zero f = sym (or_false (f 0))
any_first (suc n) f = ap (λ (t : Bool). t || f (suc n)) (any_first n f) ∙ or_assoc (f 0) (any n (λ i. f (suc i))) (f (suc n))

pub any_range : (f : ℕ → Bool) (a n : ℕ) → list_any f (range_with_len a n) ≡ any n (λ j. f (a + j))
unfolding any
any_range f a zero = refl
any_range f a (suc n) =
    ap (λ (t : Bool). f a || t) (any_range f (a + 1) n ∙ any_ext n (λ j. f (a + 1 + j)) (λ j. f (a + suc j)) (λ i _. ap f (omega arith)))
    ∙ ap (λ (t : Bool). t || any n (λ j. f (a + suc j))) (ap f (omega arith))
    ∙ sym (any_first n (λ j. f (a + j)))

-- from address 0 on
pub any_below : (f : ℕ → Bool) (n : ℕ) → list_any f (range_with_len 0 n) ≡ any n f
any_below f n = any_range f 0 n ∙ any_ext n (λ j. f (0 + j)) f (λ i _. ap f (omega arith))

-- ---- over the flags

pub count_flags : (fs : List Bool) (n : ℕ) → n ≤ length fs → count_by (λ b. b) (take n fs) ≡ count n (flag fs)
unfolding count bit
count_flags fs zero h = refl
count_flags fs (suc n) h =
    let before = count_flags fs n (omega arith) in
    let more : take (suc n) fs ≡ take n fs ++ (get_or fs n false ∷ []) = take-suc fs n false (omega arith) in
    rw more (grind (arith, common_steps, before))

-- nothing is found before the first member that is looked at
none_before : (fs : List Bool) (low : ℕ) → any low (flag_from fs low) ≡ false
none_before fs low = none_any low (flag_from fs low) (λ i h. ap (λ (t : Bool). t && flag fs i) (lt-leb low i h))

any_flags : (fs : List Bool) (low n : ℕ) → low + n ≤ length fs → list_any (λ b. b) (take n (drop low fs)) ≡ any (low + n) (flag_from fs low)
any_flags fs low zero h = let e : low + 0 ≡ low = omega arith in sym (ap (λ (k : ℕ). any k (flag_from fs low)) e ∙ none_before fs low)
any_flags fs low (suc n) h =
    let part = drop low fs in
    let long : n < length part = omega (arith, length-drop low fs) in
    let here : get_or part n false ≡ flag_from fs low (low + n) = get_or-drop low fs n false ∙ sym (ap (λ (t : Bool). t && flag fs (low + n)) (le-leb low (low + n) (omega arith))) in
    let next : low + suc n ≡ suc (low + n) = omega arith in
    let one : suc n ≡ n + 1 = omega arith in
    ap (λ (k : ℕ). list_any (λ b. b) (take k part)) one ∙ list_any_more (λ b. b) part n false long
    ∙ ap₂ ◌||◌ (any_flags fs low n (omega arith)) here ∙ sym (ap (λ (k : ℕ). any k (flag_from fs low)) next ∙ any_suc (low + n) (flag_from fs low))

-- each flag is looked at, whatever was found before
fold_any : (fs : List Bool) (a : Bool) → fold ◌||◌ a fs ≡ (a || list_any (λ b. b) fs)
fold_any [] a = sym (or_false a)
fold_any (x ∷ fs) a = fold_any fs (a || x) ∙ or_assoc a x (list_any (λ b. b) fs)

pub folded_flags : (fs : List Bool) (low n : ℕ) → low + n ≤ length fs → fold ◌||◌ false (take n (drop low fs)) ≡ any (low + n) (flag_from fs low)
folded_flags fs low n h = fold_any (take n (drop low fs)) false ∙ any_flags fs low n h

-- the flags with those of the first m members cleared, m being those of the array
pub cleared_is : (r : Shelf) (m : ℕ) (fs : List Bool) → length r.failed ≡ 19 → m ≡ r.geometry.d + r.geometry.parities → m ≤ 19
    → fs ≡ replicate m false ++ drop m r.failed → record { geometry = r.geometry; mode = r.mode; next = r.next; listed = r.listed; failed = fs } ≡ with_cleared r
cleared_is r m fs long members few e =
    let clear : (k : ℕ) → k < 19 → get_or fs k false ≡ array_cleared r.geometry (flag_at r) k = λ k h.
    cases (ltb k m)
    (λ t. ap (λ (l : List Bool). get_or l k false) e ∙ grind (arith, elements, ltb-true k m t) ∙ sym (choose_true (ltb k (r.geometry.d + r.geometry.parities)) false (flag_at r k) (ap (ltb k) (sym members) ∙ t)))
    (λ t. ap (λ (l : List Bool). get_or l k false) e ∙ grind (arith, elements, ltb-false k m t) ∙ sym (choose_false (ltb k (r.geometry.d + r.geometry.parities)) false (flag_at r k) (ap (ltb k) (sym members) ∙ t))) in
    let same : fs ≡ flags_of (array_cleared r.geometry (flag_at r)) = flags_are (array_cleared r.geometry (flag_at r)) fs (ap length e ∙ grind (arith, elements)) clear in
    λ j. record { geometry = r.geometry; mode = r.mode; next = r.next; listed = r.listed; failed = same j }
