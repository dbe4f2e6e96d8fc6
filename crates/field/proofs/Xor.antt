-- The laws of exclusive or that lib.Bits lacks: sums in another order, and sums digit by digit.
-- Assumes nothing.
use mathlib.Core.Path.{◌≡◌, sym, ap, ap₂, ◌∙◌}
use Prim.Native.Nat.{ℕ, zero, suc, ◌*◌, ◌%◌, ◌<◌}
use native.Mathlib.Nat.{le_of_suc-le-suc, not-suc-le-zero, mod-lt, zero-lt-suc, add-zero, zero-mul, one-mul}
use lib.Bits.{bit_xor, xor_assoc, xor_comm, xor_self, xor_zero_r, xor_block}

-- what holds of 0 and of 1 holds of a digit
pub digit : (P : ℕ → Type 0) → P 0 → P 1 → (x : ℕ) → x < 2 → P x
digit P p q zero h = p
digit P p q (suc zero) h = q
digit P p q (suc (suc x)) h = absurd (not-suc-le-zero (le_of_suc-le-suc (le_of_suc-le-suc h)))

pub odd_lt : (n : ℕ) → n % 2 < 2
odd_lt n = mod-lt n (zero-lt-suc 1)

pub xor_left_comm : (a b c : ℕ) → bit_xor a (bit_xor b c) ≡ bit_xor b (bit_xor a c)
xor_left_comm a b c = sym (xor_assoc a b c) ∙ ap (λ (x : ℕ). bit_xor x c) (xor_comm a b) ∙ xor_assoc b a c

-- the middle two change places
pub xor_swap : (a b c d : ℕ) → bit_xor (bit_xor a b) (bit_xor c d) ≡ bit_xor (bit_xor a c) (bit_xor b d)
xor_swap a b c d = xor_assoc a b (bit_xor c d) ∙ ap (bit_xor a) (xor_left_comm b c d) ∙ sym (xor_assoc a c (bit_xor b d))

-- what was added is taken away by adding it again
pub xor_cancel : (a b : ℕ) → bit_xor a (bit_xor a b) ≡ b
xor_cancel a b = sym (xor_assoc a a b) ∙ ap (λ (x : ℕ). bit_xor x b) (xor_self a)

pub xor_eq_zero : (a b : ℕ) → bit_xor a b ≡ 0 → a ≡ b
xor_eq_zero a b e = sym (xor_zero_r a) ∙ ap (bit_xor a) (sym e) ∙ xor_cancel a b

pub xor_double : (a b : ℕ) → bit_xor a b * 2 ≡ bit_xor (a * 2) (b * 2)
xor_double a b =
    sym (add-zero (bit_xor a b * 2))
    ∙ sym (xor_block 1 a b 0 0 (zero-lt-suc 1) (zero-lt-suc 1))
    ∙ ap₂ bit_xor (add-zero (a * 2)) (add-zero (b * 2))

-- a digit times a number goes through
pub digit_times_xor : (d : ℕ) → d < 2 → (a b : ℕ) → d * bit_xor a b ≡ bit_xor (d * a) (d * b)
digit_times_xor = digit (λ (d : ℕ). (a b : ℕ) → d * bit_xor a b ≡ bit_xor (d * a) (d * b)) (λ a b. simp zero-mul) (λ a b. simp one-mul)

-- the sum of two digits, times a number
pub digits_xor_times : (a : ℕ) (x : ℕ) → x < 2 → (y : ℕ) → y < 2 → bit_xor x y * a ≡ bit_xor (x * a) (y * a)
digits_xor_times a =
    digit (λ (x : ℕ). (y : ℕ) → y < 2 → bit_xor x y * a ≡ bit_xor (x * a) (y * a))
    (λ y h. ap (λ (k : ℕ). bit_xor k (y * a)) (sym (zero-mul a)))
    (digit (λ (y : ℕ). bit_xor 1 y * a ≡ bit_xor (1 * a) (y * a))
    (simp (zero-mul, one-mul, xor_zero_r))
    (simp (zero-mul, one-mul, xor_self)))
