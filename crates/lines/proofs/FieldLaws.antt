-- Laws of fields: a line cut at its blanks, and a field's value, gone through byte by byte.
-- Assumes nothing.
use mathlib.Core.Bool.{Bool, true, false, cond, ◌&&◌}
use mathlib.Core.List.{List, [], ◌∷◌, ◌++◌}
use mathlib.Core.Path.{◌≡◌, refl, sym, ap, ◌∙◌}
use Prim.Native.Nat.{ℕ, zero, suc, ◌+◌, ◌*◌, ◌-◌, ◌^◌, ◌≤◌, ◌<◌}
use native.Mathlib.Nat.{add-zero, zero-add, zero-mul, mul-one, mul_assoc, add-mul, mul-le-mul_left, pow-zero, pow-succ'}
use native.Mathlib.Numerals.{add-one}
use native.Mathlib.Omega.{arith}
use lib.Dec.{eqb, ltb, leb}
use lib.ListN.{length, drop, get_or, drop_of_length-le}
use lib.Seq.{drop-cons}
use borrow.Author.Tests.{lt-ltb, le-ltb, leb-true}
use Rattle.std.specs.Prelude.{Option, Some, None}
use Rattle.std.specs.Char.{is_ascii_digit}
use Rattle.std.specs.List.{slice_split, onto_first}
use Rattle.lines.specs.Fields.{begun, fields, nth, is_digit, all_digits, number_of, limit, is_value}
use Rattle.lines.specs.Walking.{value_of}
use Rattle.lines.proofs.TestLaws.{and_left, and_right, and_false}

-- ---- cutting

-- some fields with xs put in front of the first
unfoldable pub grown : List ℕ → List (List ℕ) → List (List ℕ)
grown xs fs = (xs ++ nth fs 0) ∷ drop 1 fs

pub begun_grown : (x : ℕ) (fs : List (List ℕ)) → begun false x fs ≡ grown (x ∷ []) fs
unfolding begun grown
begun_grown x [] = refl
begun_grown x (f ∷ fs) = refl

begun_full : (b : Bool) (x : ℕ) (fs : List (List ℕ)) → grown [] (begun b x fs) ≡ begun b x fs
unfolding begun grown
begun_full true x fs = refl
begun_full false x [] = refl
begun_full false x (f ∷ fs) = refl

-- a line has a first field
pub fields_full : (line : List ℕ) → grown [] (fields line) ≡ fields line
unfolding fields grown
fields_full [] = refl
fields_full (x ∷ line) = begun_full (eqb x 32) x (fields line)

begun_onto : (b : Bool) (x : ℕ) (fs : List (List ℕ)) → begun b x fs ≡ cond b ([] ∷ fs) (onto_first x fs)
unfolding begun
begun_onto true x fs = refl
begun_onto false x [] = refl
begun_onto false x (f ∷ fs) = refl

-- a line's fields are what a split at its blanks gives
pub fields_split : (line : List ℕ) → fields line ≡ slice_split (λ x. eqb x 32) line
unfolding fields
fields_split [] = refl
fields_split (x ∷ line) = ap (begun (eqb x 32) x) (fields_split line) ∙ begun_onto (eqb x 32) x (slice_split (λ y. eqb y 32) line)

-- ---- values

-- the number of a field of which the digits of n are read and xs are left, where all is a value
unfoldable pub value_from : ℕ → List ℕ → Option ℕ
value_from n xs = cond (all_digits xs && ltb (n * 10 ^ length xs + number_of xs) limit) (Some (n * 10 ^ length xs + number_of xs)) None

pub value_empty : (f : List ℕ) → length f ≡ 0 → value_of f ≡ None
unfolding value_of is_value
value_empty f e = simp e

pub value-start : (f : List ℕ) → 0 < length f → value_from 0 f ≡ value_of f
unfolding value_of is_value value_from
value-start f h =
    let z : 0 * 10 ^ length f + number_of f ≡ number_of f = simp (zero-mul, zero-add) in
    simp (lt-ltb 0 (length f) h, z)

number_on : (n x : ℕ) (xs : List ℕ) → n * 10 ^ suc (length xs) + ((x - 48) * 10 ^ length xs + number_of xs) ≡ (n * 10 + (x - 48)) * 10 ^ length xs + number_of xs
number_on n x xs =
    let p : ℕ = 10 ^ length xs in
    let a : n * 10 ^ suc (length xs) ≡ n * 10 * p = ap (λ (k : ℕ). n * k) (pow-succ' 10 (length xs)) ∙ sym (mul_assoc n 10 p) in
    let b : (n * 10 + (x - 48)) * p ≡ n * 10 * p + (x - 48) * p = add-mul (n * 10) (x - 48) p in
    omega (arith, a, b)

pub digit_range : (x : ℕ) → is_digit x ≡ true → (48 ≤ x) × (x ≤ 57)
unfolding is_digit
digit_range x d = (leb-true 48 x (and_left (leb 48 x) (leb x 57) d), leb-true x 57 (and_right (leb 48 x) (leb x 57) d))

pub ascii_digit : (x : ℕ) → is_ascii_digit x ≡ is_digit x
unfolding is_digit
ascii_digit x = refl

value_at : (n x : ℕ) (xs : List ℕ) → is_digit x ≡ true → value_from n (x ∷ xs) ≡ value_from (n * 10 + (x - 48)) xs
unfolding value_from all_digits number_of
value_at n x xs d = simp (d, number_on n x xs)

value_not : (n x : ℕ) (xs : List ℕ) → is_digit x ≡ false → value_from n (x ∷ xs) ≡ None
unfolding value_from all_digits
value_not n x xs d = simp d

-- a digit is read
pub value_on : (f : List ℕ) (n i : ℕ) → i < length f → is_digit (get_or f i 0) ≡ true
    → value_from (n * 10 + (get_or f i 0 - 48)) (drop (i + 1) f) ≡ value_from n (drop i f)
value_on f n i h d = rw (add-one i, drop-cons f i 0 h) (sym (value_at n (get_or f i 0) (drop (suc i) f) d))

-- a byte that is no digit
pub value_off : (f : List ℕ) (n i : ℕ) → i < length f → is_digit (get_or f i 0) ≡ false → value_from n (drop i f) ≡ None
value_off f n i h d = rw (drop-cons f i 0 h) (value_not n (get_or f i 0) (drop (suc i) f) d)

some_power : (k : ℕ) → 1 ≤ 10 ^ k
some_power zero = rw pow-zero (omega arith)
some_power (suc k) = rw (pow-succ' 10 k) (omega (arith, some_power k))

number_grows : (n : ℕ) (xs : List ℕ) → n ≤ n * 10 ^ length xs
number_grows n xs =
    let p : 1 ≤ 10 ^ length xs = some_power (length xs) in
    rw mul-one at (mul-le-mul_left n p)

-- what is read is too large already
pub value_large : (n : ℕ) (xs : List ℕ) → limit ≤ n → value_from n xs ≡ None
unfolding value_from
value_large n xs h =
    let g : limit ≤ n * 10 ^ length xs + number_of xs = omega (arith, number_grows n xs) in
    simp (le-ltb (n * 10 ^ length xs + number_of xs) limit g, and_false)

-- all is read
pub value_end : (f : List ℕ) (n i : ℕ) → length f ≤ i → n < limit → value_from n (drop i f) ≡ Some n
unfolding value_from all_digits number_of
value_end f n i h l =
    let z : n * 10 ^ 0 + 0 ≡ n = simp (pow-zero, mul-one, add-zero) in
    rw (drop_of_length-le f h) (simp (z, lt-ltb n limit l))
