-- The field of 256 elements with the polynomial x^8 + x^4 + x^3 + x^2 + 1, 11D hexadecimal: that of H. P. Anvin, "The mathematics of RAID-6".
-- A byte is an element, and the sum of two elements is their exclusive or, `bit_xor`. Every number here is a byte, but for the n of a power.
-- No definition names a table.
-- Assumes nothing.
use Rattle.std.specs.Prelude.{List, ◌≡◌, ℕ, zero, suc, ◌*◌, ◌/◌, ◌%◌, ◌≤◌, ◌<◌, get_or}
use Rattle.std.specs.Int.Bits.{bit_xor}

-- 2 times a: the bits move up by one; bit 8, where it comes up, is taken away with 11D: `% 256` drops it, and 29 is the 1D that is left
unfoldable pub double : ℕ → ℕ
double a = bit_xor (a * 2 % 256) (a / 128 * 29)

-- 2 to the power n, by repeated doubling
unfoldable pub pow2 : ℕ → ℕ
pow2 zero = 1
pow2 (suc n) = double (pow2 n)

-- a times the number that the n low bits of b make
unfoldable pub times_low : ℕ → ℕ → ℕ → ℕ
times_low zero a b = 0
times_low (suc n) a b = bit_xor (b % 2 * a) (times_low n (double a) (b / 2))

-- a times b: bit n of b stands for 2 to the power n
unfoldable pub times : ℕ → ℕ → ℕ
times a b = times_low 8 a b

-- a to the power n
unfoldable pub raised : ℕ → ℕ → ℕ
raised zero a = 1
raised (suc n) a = times a (raised n a)

-- what a is multiplied by to give 1; 0 for 0. Every element but 0 has a 255th power of 1, so its 254th is its inverse
unfoldable pub inverse : ℕ → ℕ
inverse a = raised 254 a

-- ---- what a table holds

-- entry k of t is c times k, for every byte k
abbrev pub Multiples : ℕ → List ℕ → Type 0
Multiples c t = (k : ℕ) → k < 256 → get_or t k 0 ≡ times c k

-- from place n on t has what t₀ has
abbrev pub SameFrom : ℕ → List ℕ → List ℕ → Type 0
SameFrom n t₀ t = (k : ℕ) → n ≤ k → get_or t k 0 ≡ get_or t₀ k 0

-- entry n of t is 2 to the power n, for n below 256
abbrev pub Powers : List ℕ → Type 0
Powers t = (n : ℕ) → n < 256 → get_or t n 0 ≡ pow2 n

-- entry a of t is the n below 255 with 2 to the power n equal to a, for every byte a but 0
abbrev pub Logarithms : List ℕ → Type 0
Logarithms t = (a : ℕ) → 0 < a → a < 256 → (get_or t a 0 < 255) × (pow2 (get_or t a 0) ≡ a)
