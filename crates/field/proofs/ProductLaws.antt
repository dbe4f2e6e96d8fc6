-- The laws of the product. That it distributes over exclusive or follows digit by digit. Every byte but 0 is a power of 2, by the table of
-- logarithms, and the rest follows from `pow2_add`: the product commutes, associates and has inverses, and no two powers below 255 are equal.
-- Assumes nothing.
use mathlib.Core.Bool.{Bool}
use mathlib.Core.Path.{◌≡◌, refl, sym, ap, ap₂, ◌∙◌, subst}
use Prim.Native.Nat.{ℕ, zero, suc, ◌+◌, ◌*◌, ◌-◌, ◌/◌, ◌%◌, ◌<◌, ◌≤◌}
use native.Mathlib.Nat.{zero-lt-suc, zero-mul, one-mul, mul-zero, suc-add, zero-add, add_comm, add_assoc, add-zero, sub-add_cancel}
use native.Mathlib.Omega.{arith}
use lib.Bits.{bit_xor, xor_lt, xor_mod, xor_shr}
use lib.Dec.{eqb, eqb→eq, lit<}
use lib.ListN.{get_or}
use Rattle.field.specs.Field.{double, pow2, times_low, times, raised, inverse}
use Rattle.field.proofs.Table.{at}
use Rattle.field.proofs.TableRules.{logarithms, logarithms_hold, logarithm_pow2}
use Rattle.field.proofs.Xor.{digit, odd_lt, xor_swap, xor_double, digit_times_xor, digits_xor_times, xor_eq_zero}

pub xor_byte : (a b : ℕ) → a < 256 → b < 256 → bit_xor a b < 256
xor_byte a b ha hb = xor_lt 8 a b ha hb

top_lt : (a : ℕ) → a < 256 → a / 128 < 2
top_lt a h = omega arith

pub double_byte : (a : ℕ) → a < 256 → double a < 256
unfolding double
double_byte a h = xor_byte (a * 2 % 256) (a / 128 * 29) (omega arith) (omega arith)

pub double_xor : (a b : ℕ) → a < 256 → b < 256 → double (bit_xor a b) ≡ bit_xor (double a) (double b)
unfolding double
double_xor a b ha hb =
    ap₂ (λ (x y : ℕ). bit_xor (x % 256) (y * 29)) (xor_double a b) (xor_shr a b 7)
    ∙ ap₂ bit_xor (xor_mod (a * 2) (b * 2) 8) (digits_xor_times 29 (a / 128) (top_lt a ha) (b / 128) (top_lt b hb))
    ∙ xor_swap (a * 2 % 256) (b * 2 % 256) (a / 128 * 29) (b / 128 * 29)

pub pow2_byte : (n : ℕ) → pow2 n < 256
unfolding pow2
pow2_byte zero = lit< tt
pow2_byte (suc n) = double_byte (pow2 n) (pow2_byte n)

digit_byte : (d : ℕ) → d < 2 → (a : ℕ) → a < 256 → d * a < 256
digit_byte = digit (λ (d : ℕ). (a : ℕ) → a < 256 → d * a < 256) (λ a h. omega arith) (λ a h. omega arith)

low_byte : (n a b : ℕ) → a < 256 → times_low n a b < 256
unfolding times_low
low_byte zero a b h = lit< tt
low_byte (suc n) a b h = xor_byte (b % 2 * a) (times_low n (double a) (b / 2)) (digit_byte (b % 2) (odd_lt b) a h) (low_byte n (double a) (b / 2) (double_byte a h))

pub times_byte : (a b : ℕ) → a < 256 → times a b < 256
unfolding times
times_byte a b h = low_byte 8 a b h

-- ---- distribution

low_xor_l : (n a c b : ℕ) → a < 256 → c < 256 → times_low n (bit_xor a c) b ≡ bit_xor (times_low n a b) (times_low n c b)
unfolding times_low
low_xor_l zero a c b ha hc = refl
low_xor_l (suc n) a c b ha hc =
    ap₂ bit_xor (digit_times_xor (b % 2) (odd_lt b) a c)
    (ap (λ (x : ℕ). times_low n x (b / 2)) (double_xor a c ha hc) ∙ low_xor_l n (double a) (double c) (b / 2) (double_byte a ha) (double_byte c hc))
    ∙ xor_swap (b % 2 * a) (b % 2 * c) (times_low n (double a) (b / 2)) (times_low n (double c) (b / 2))

low_xor_r : (n a b c : ℕ) → times_low n a (bit_xor b c) ≡ bit_xor (times_low n a b) (times_low n a c)
unfolding times_low
low_xor_r zero a b c = refl
low_xor_r (suc n) a b c =
    ap₂ (λ (x y : ℕ). bit_xor (x * a) (times_low n (double a) y)) (xor_mod b c 1) (xor_shr b c 1)
    ∙ ap₂ bit_xor (digits_xor_times a (b % 2) (odd_lt b) (c % 2) (odd_lt c)) (low_xor_r n (double a) (b / 2) (c / 2))
    ∙ xor_swap (b % 2 * a) (c % 2 * a) (times_low n (double a) (b / 2)) (times_low n (double a) (c / 2))

pub times_xor_l : (a c b : ℕ) → a < 256 → c < 256 → times (bit_xor a c) b ≡ bit_xor (times a b) (times c b)
unfolding times
times_xor_l a c b ha hc = low_xor_l 8 a c b ha hc

pub times_xor_r : (a b c : ℕ) → times a (bit_xor b c) ≡ bit_xor (times a b) (times a c)
unfolding times
times_xor_r a b c = low_xor_r 8 a b c

-- ---- zero and one

low_zero_l : (n b : ℕ) → times_low n 0 b ≡ 0
unfolding times_low double
low_zero_l zero b = refl
low_zero_l (suc n) b = ap₂ bit_xor (mul-zero (b % 2)) (low_zero_l n (b / 2))

low_zero_r : (n a : ℕ) → times_low n a 0 ≡ 0
unfolding times_low
low_zero_r zero a = refl
low_zero_r (suc n) a = ap₂ bit_xor (zero-mul a) (low_zero_r n (double a))

pub times_zero_l : (b : ℕ) → times 0 b ≡ 0
unfolding times
times_zero_l b = low_zero_l 8 b

pub times_zero_r : (a : ℕ) → times a 0 ≡ 0
unfolding times
times_zero_r a = low_zero_r 8 a

-- ---- powers

double_digit : (d : ℕ) → d < 2 → (a : ℕ) → double (d * a) ≡ d * double a
unfolding double
double_digit = digit (λ (d : ℕ). (a : ℕ) → double (d * a) ≡ d * double a) (λ a. simp zero-mul) (λ a. simp one-mul)

low-double : (n a b : ℕ) → a < 256 → times_low n (double a) b ≡ double (times_low n a b)
unfolding times_low
low-double zero a b h = unfold double in refl
low-double (suc n) a b h =
    ap₂ bit_xor (sym (double_digit (b % 2) (odd_lt b) a)) (low-double n (double a) (b / 2) (double_byte a h))
    ∙ sym (double_xor (b % 2 * a) (times_low n (double a) (b / 2)) (digit_byte (b % 2) (odd_lt b) a h) (low_byte n (double a) (b / 2) (double_byte a h)))

pub double_zero : double 0 ≡ 0
unfolding double
double_zero = refl

pub times_double_l : (a b : ℕ) → a < 256 → times (double a) b ≡ double (times a b)
unfolding times
times_double_l a b h = low-double 8 a b h

pub pow2_zero : pow2 0 ≡ 1
unfolding pow2
pow2_zero = refl

pub pow2_suc : (n : ℕ) → pow2 (suc n) ≡ double (pow2 n)
unfolding pow2
pow2_suc n = refl

-- 1 times each byte is the byte: a test over the 256 bytes, which the checker computes. The table serves as a list of that length
one_right : ℕ → ℕ → Bool
one_right k x = eqb (times 1 k) k

pub one_times : (b : ℕ) → b < 256 → times 1 b ≡ b
unfolding logarithms one_right times times_low double
one_times b h = eqb→eq (times 1 b) b (at one_right logarithms tt b h)

pub pow2_add : (n m : ℕ) → times (pow2 n) (pow2 m) ≡ pow2 (n + m)
pow2_add zero m = ap (λ (x : ℕ). times x (pow2 m)) pow2_zero ∙ one_times (pow2 m) (pow2_byte m) ∙ ap pow2 (sym (zero-add m))
pow2_add (suc n) m =
    ap (λ (x : ℕ). times x (pow2 m)) (pow2_suc n) ∙ times_double_l (pow2 n) (pow2 m) (pow2_byte n) ∙ ap double (pow2_add n m)
    ∙ sym (pow2_suc (n + m)) ∙ ap pow2 (sym (suc-add n m))

-- ---- every byte is 0 or a power of 2
data Element : ℕ → Type 0 where
  none : Element 0
  gen : (n : ℕ) → n < 255 → Element (pow2 n)

element : (a : ℕ) → a < 256 → Element a
element zero h = none
element (suc a) h =
    let l : (get_or logarithms (suc a) 0 < 255) × (pow2 (get_or logarithms (suc a) 0) ≡ suc a) = logarithms_hold (suc a) (zero-lt-suc a) h in
    subst (λ (x : ℕ). Element x) l.1 (gen (get_or logarithms (suc a) 0) l.0)

pub times_comm : (a b : ℕ) → a < 256 → b < 256 → times a b ≡ times b a
times_comm a b ha hb = go (element a ha) (element b hb)
  where
    go : {a b : ℕ} → Element a → Element b → times a b ≡ times b a
    go none none = refl
    go none (gen m l) = times_zero_l (pow2 m) ∙ sym (times_zero_r (pow2 m))
    go (gen n k) none = times_zero_r (pow2 n) ∙ sym (times_zero_l (pow2 n))
    go (gen n k) (gen m l) = pow2_add n m ∙ ap pow2 (add_comm n m) ∙ sym (pow2_add m n)

pub times_assoc : (a b c : ℕ) → a < 256 → b < 256 → c < 256 → times (times a b) c ≡ times a (times b c)
times_assoc a b c ha hb hc = go (element a ha) (element b hb) (element c hc)
  where
    go : {a b c : ℕ} → Element a → Element b → Element c → times (times a b) c ≡ times a (times b c)
    go {b = b} {c = c} none y z = ap (λ (x : ℕ). times x c) (times_zero_l b) ∙ times_zero_l c ∙ sym (times_zero_l (times b c))
    go {a = a} {c = c} (gen n k) none z =
        ap (λ (x : ℕ). times x c) (times_zero_r (pow2 n)) ∙ times_zero_l c ∙ sym (ap (times (pow2 n)) (times_zero_l c) ∙ times_zero_r (pow2 n))
    go (gen n k) (gen m l) none = times_zero_r (times (pow2 n) (pow2 m)) ∙ sym (ap (times (pow2 n)) (times_zero_r (pow2 m)) ∙ times_zero_r (pow2 n))
    go (gen n k) (gen m l) (gen o j) =
        ap (λ (x : ℕ). times x (pow2 o)) (pow2_add n m) ∙ pow2_add (n + m) o ∙ ap pow2 (add_assoc n m o)
        ∙ sym (pow2_add n (m + o)) ∙ ap (times (pow2 n)) (sym (pow2_add m o))

pub pow2_255 : pow2 255 ≡ 1
unfolding pow2 double
pow2_255 = refl

pub pow2_round : (n : ℕ) → pow2 (n + 255) ≡ pow2 n
pow2_round n =
    sym (pow2_add n 255) ∙ ap (times (pow2 n)) (pow2_255 ∙ sym pow2_zero) ∙ pow2_add n 0 ∙ ap pow2 (add-zero n)

-- the inverse of 2 to the power n
pub pow2_inverse : (n : ℕ) → n ≤ 255 → times (pow2 (255 - n)) (pow2 n) ≡ 1
pow2_inverse n h = pow2_add (255 - n) n ∙ ap pow2 (sub-add_cancel h) ∙ pow2_255

pub pow2_rounds : (k n : ℕ) → pow2 (n + k * 255) ≡ pow2 n
pow2_rounds zero n = ap pow2 (ap (λ (x : ℕ). n + x) (zero-mul 255) ∙ add-zero n)
pow2_rounds (suc k) n =
    let e : n + suc k * 255 ≡ n + k * 255 + 255 = omega arith in
    ap pow2 e ∙ pow2_round (n + k * 255) ∙ pow2_rounds k n

raised-pow : (n k : ℕ) → raised n (pow2 k) ≡ pow2 (n * k)
unfolding raised
raised-pow zero k = sym (ap pow2 (zero-mul k) ∙ pow2_zero)
raised-pow (suc n) k =
    let e : k + n * k ≡ suc n * k = omega arith in
    ap (times (pow2 k)) (raised-pow n k) ∙ pow2_add k (n * k) ∙ ap pow2 e

pub inverse-pow : (n : ℕ) → n ≤ 255 → inverse (pow2 n) ≡ pow2 (255 - n)
unfolding inverse
inverse-pow zero h = raised-pow 254 0 ∙ pow2_zero ∙ sym pow2_255
inverse-pow (suc k) h =
    let e : 254 * suc k ≡ 255 - suc k + k * 255 = omega arith in
    raised-pow 254 (suc k) ∙ ap pow2 e ∙ pow2_rounds k (255 - suc k)

pub inverse_zero : inverse 0 ≡ 0
unfolding inverse raised
inverse_zero = times_zero_l (raised 253 0)

pub times_inverse : (a : ℕ) → 0 < a → a < 256 → times (inverse a) a ≡ 1
times_inverse a p h =
    let l = logarithms_hold a p h in
    let le : get_or logarithms a 0 ≤ 255 = omega (arith, l.0) in
    ap (λ (x : ℕ). times (inverse x) x) (sym l.1)
    ∙ ap (λ (x : ℕ). times x (pow2 (get_or logarithms a 0))) (inverse-pow (get_or logarithms a 0) le) ∙ pow2_inverse (get_or logarithms a 0) le

raised_byte : (n a : ℕ) → a < 256 → raised n a < 256
unfolding raised
raised_byte zero a h = lit< tt
raised_byte (suc n) a h = times_byte a (raised n a) h

pub inverse_byte : (a : ℕ) → a < 256 → inverse a < 256
unfolding inverse
inverse_byte a h = raised_byte 254 a h

-- a product with a is undone by the inverse of a
pub times_cancel : (a v : ℕ) → 0 < a → a < 256 → v < 256 → times (inverse a) (times a v) ≡ v
times_cancel a v pos ha hv =
    sym (times_assoc (inverse a) a v (inverse_byte a ha) ha hv) ∙ ap (λ (k : ℕ). times k v) (times_inverse a pos ha) ∙ one_times v hv

pub double_times : (a : ℕ) → a < 256 → double a ≡ times 2 a
double_times a h = sym (ap (λ (k : ℕ). times k a) two ∙ times_double_l 1 a (lit< tt) ∙ ap double (one_times a h))
  where
    two : 2 ≡ double 1
    two = unfold double in refl

pub pow2_positive : (n : ℕ) → n ≤ 255 → 0 < pow2 n
pow2_positive n h = go (pow2 n) refl
  where
    go : (r : ℕ) → pow2 n ≡ r → 0 < r
    go zero e = let z : ◌≡◌ {A = ℕ} 0 1 = sym (times_zero_r (pow2 (255 - n))) ∙ ap (times (pow2 (255 - n))) (sym e) ∙ pow2_inverse n h in absurd (omega arith)
    go (suc r) e = zero-lt-suc r

pub pow2_inj : (n m : ℕ) → n < 255 → m < 255 → pow2 n ≡ pow2 m → n ≡ m
pow2_inj n m hn hm e = sym (logarithm_pow2 n hn) ∙ ap (λ (x : ℕ). get_or logarithms x 0) e ∙ logarithm_pow2 m hm

-- different powers differ by something that has an inverse
pub pow2_differ : (n m : ℕ) → n < m → m < 255 → 0 < bit_xor (pow2 n) (pow2 m)
pow2_differ n m h k = go (bit_xor (pow2 n) (pow2 m)) refl
  where
    go : (r : ℕ) → bit_xor (pow2 n) (pow2 m) ≡ r → 0 < r
    go zero e = let same : n ≡ m = pow2_inj n m (omega arith) k (xor_eq_zero (pow2 n) (pow2 m) e) in absurd (omega arith)
    go (suc r) e = zero-lt-suc r
