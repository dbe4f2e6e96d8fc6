-- What the loops below the calls gather, byte by byte: words for the contracts of the functions that the calls are made of.
-- Assumes nothing.
use Rattle.std.specs.Prelude.{Bool, ◌||◌, Option, Some, None, List, ◌⊎◌, ◌≢◌, ◌≡◌, ℕ, ◌+◌, ◌≤◌, ◌<◌, eqb, ltb, length, get_or}
use Rattle.std.specs.Int.Bits.{bit_xor}
use Rattle.field.specs.Field.{double, times, inverse}
use Rattle.stripe.specs.Parity.{pick, weight, parity_p, parity_q, parity_of, made, without, rest_p, data_solved}

-- ---- rows of bytes

-- the first w bytes of x are f's
abbrev pub Starts : ℕ → List ℕ → (ℕ → ℕ) → Type 0
Starts w x f = (j : ℕ) → j < w → get_or x j 0 ≡ f j

-- nothing but 0
unfoldable pub zeros : ℕ → ℕ
zeros j = 0

-- f from place o on
unfoldable pub later : (ℕ → ℕ) → ℕ → ℕ → ℕ
later f o j = f (o + j)

-- byte j of a row; of one taken from place at of a buffer
unfoldable pub byte : List ℕ → ℕ → ℕ
byte x j = get_or x j 0

unfoldable pub taken : ℕ → List ℕ → ℕ → ℕ
taken at src j = get_or src (at + j) 0

-- byte j of x with f's added; of twice x with f's added, a step of Horner's rule; of twice x; of c times x
unfoldable pub plus : (ℕ → ℕ) → List ℕ → ℕ → ℕ
plus f x j = bit_xor (get_or x j 0) (f j)

unfoldable pub twice_plus : (ℕ → ℕ) → List ℕ → ℕ → ℕ
twice_plus f x j = bit_xor (double (get_or x j 0)) (f j)

unfoldable pub doubled : List ℕ → ℕ → ℕ
doubled x j = double (get_or x j 0)

unfoldable pub scaled : ℕ → List ℕ → ℕ → ℕ
scaled c x j = times c (get_or x j 0)

-- a place out of the w bytes from at on
abbrev pub Outside : ℕ → ℕ → ℕ → Type 0
Outside i at w = (i < at) ⊎ (at + w ≤ i)

-- two runs of w bytes that share none
abbrev pub Apart : ℕ → ℕ → ℕ → Type 0
Apart at to w = (at + w ≤ to) ⊎ (to + w ≤ at)

-- the buffer a is a₀ with the first w bytes of x from at on
pub record PutRow (at w : ℕ) (x a₀ a : List ℕ) : Type 0 where
  pub same_length : length a ≡ length a₀
  pub inside : (j : ℕ) → j < w → get_or a (at + j) 0 ≡ get_or x j 0
  pub others : (i : ℕ) → Outside i at w → get_or a i 0 ≡ get_or a₀ i 0

-- ---- parity, made some columns at a time; the table at has the offset of each role's block

-- the table has the offsets of n runs of w bytes that lie within a buffer of size bytes; of n runs of w bytes that share none
pub record Spans (n w size : ℕ) (at : List ℕ) : Type 0 where
  pub long : n ≤ length at
  pub within : (i : ℕ) → i < n → get_or at i 0 + w ≤ size

abbrev pub Disjoint : ℕ → ℕ → List ℕ → Type 0
Disjoint n w at = (i m : ℕ) → i < n → m < n → i ≢ m → Apart (get_or at i 0) (get_or at m 0) w

-- column j of the stripe in the buffer a; and what h makes of it
unfoldable pub column_from : List ℕ → List ℕ → ℕ → ℕ → ℕ
column_from at a j i = get_or a (get_or at i 0 + j) 0

unfoldable pub by_start : ((ℕ → ℕ) → ℕ) → List ℕ → List ℕ → ℕ → ℕ
by_start h at a j = h (column_from at a j)

-- p and, where there are two parities, q start with columns o to o + w - 1 of the P and the Q that the stripe's data gives
pub record SumsAt (at : List ℕ) (d k : ℕ) (a : List ℕ) (o w : ℕ) (p q : List ℕ) : Type 0 where
  pub p_summed : Starts w p (later (by_start (parity_p d) at a) o)
  pub q_summed : k ≡ 2 → Starts w q (later (by_start (parity_q d) at a) o)

-- the array a is a₀ but for the stripe's k parities, blocks of b bytes, whose first o columns are made of a₀'s data
pub record Partly (at : List ℕ) (d k b o : ℕ) (a₀ a : List ℕ) : Type 0 where
  pub same_length : length a ≡ length a₀
  pub in_parity : (p j : ℕ) → p < k → j < o → column_from at a j (d + p) ≡ by_start (parity_of p d) at a₀ j
  pub others : (i : ℕ) → ((p : ℕ) → p < k → Outside i (get_or at (d + p) 0) b) → get_or a i 0 ≡ get_or a₀ i 0

-- ---- recovery, role by role

-- what data i gives to the sum for P where x and y are missing, and the sum
unfoldable pub there : ℕ → ℕ → ℕ → (ℕ → ℕ) → ℕ
there x y i D = without x y D i

unfoldable pub there_p : ℕ → ℕ → ℕ → (ℕ → ℕ) → ℕ
there_p d x y D = parity_p d (without x y D)

-- what data i gives to the sum for Q where P + Pxy stands in for y, and the sum: Qxy and weight y times P + Pxy
unfoldable pub stand_in : ℕ → ℕ → ℕ → (ℕ → ℕ) → ℕ → ℕ
stand_in d x y D i = pick (eqb i x) 0 (pick (eqb i y) (rest_p d x y D) (D i))

unfoldable pub standing : ℕ → ℕ → ℕ → ℕ → (ℕ → ℕ) → ℕ
standing d x y i D = stand_in d x y D i

unfoldable pub standing_q : ℕ → ℕ → ℕ → (ℕ → ℕ) → ℕ
standing_q d x y D = parity_q d (stand_in d x y D)

-- whether data x comes from P where y is missing too; and what it is multiplied by in the other sum with Q added
unfoldable pub comes_from_p : ℕ → ℕ → ℕ → Bool
comes_from_p d x y = eqb x y || ltb d y

unfoldable pub coefficient : ℕ → ℕ → ℕ → ℕ
coefficient d x y = pick (ltb y d) (bit_xor (weight x) (weight y)) (weight x)

-- The constant whose products a table has, by the pair that it is for: the inverse of that coefficient for data x and y, y being 16 where it is not
-- data; 0 where there is no pair.
abbrev pub told_constant : Option (ℕ × ℕ) → ℕ
told_constant None = 0
told_constant (Some p) = inverse (coefficient 16 p.0 p.1)

-- byte j of w with f's added, divided by that coefficient
unfoldable pub quotient : ℕ → ℕ → ℕ → (ℕ → ℕ) → List ℕ → ℕ → ℕ
quotient d x y f w j = times (inverse (coefficient d x y)) (bit_xor (get_or w j 0) (f j))

-- data x, where role y is other data and has the sum of both
unfoldable pub of_sum : ℕ → ℕ → ℕ → (ℕ → ℕ) → ℕ
of_sum d x y D = times (inverse (coefficient d x y)) (bit_xor (standing_q d x x D) (D (d + 1)))

-- ---- recovery in two steps, each on every column: the data where it is missing, then the parities of the data

-- column D with what h makes of it for role m
unfoldable pub replaced : ℕ → ((ℕ → ℕ) → ℕ) → (ℕ → ℕ) → ℕ → ℕ
replaced m h D i = pick (eqb i m) (h D) (D i)

-- the sum of roles x and y
unfoldable pub sum_of : ℕ → ℕ → (ℕ → ℕ) → ℕ
sum_of x y D = bit_xor (D x) (D y)

-- the two steps: x and y recovered where they are data; P and Q made of the data, each where x or y is it
unfoldable pub data_step : ℕ → ℕ → ℕ → (ℕ → ℕ) → ℕ → ℕ
data_step d x y D i = pick (ltb i d) (data_solved d x y D i) (D i)

unfoldable pub parity_step : ℕ → ℕ → ℕ → (ℕ → ℕ) → ℕ → ℕ
parity_step d x y D i = pick (eqb x i || eqb y i) (made d D i) (D i)
