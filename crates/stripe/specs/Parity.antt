-- The parity of RAID-6 and the recovery of missing blocks, after H. P. Anvin, "The mathematics of RAID-6", with his letters: data D, parities P
-- and Q. A stripe has k parities, 2 or 1: with one there is no Q. A role is a block's part in its stripe: data 0 to d - 1, P is d, Q is d + 1; so
-- there are d + k roles. All of it is about one column of the stripe: a byte of each of its blocks, from the same place in each. D i is the byte of
-- role i.
-- Assumes nothing.
use Rattle.std.specs.Prelude.{Bool, true, false, ◌⊎◌, ◌≡◌, ℕ, zero, suc, ◌+◌, ◌≤◌, ◌<◌, eqb, ltb}
use Rattle.std.specs.Int.Bits.{bit_xor}
use Rattle.field.specs.Field.{pow2, times, inverse}

-- a where the test holds, else c
unfoldable pub pick : Bool → ℕ → ℕ → ℕ
pick true a c = a
pick false a c = c

-- the sum of w i times D i over the first n roles
unfoldable pub sum : (ℕ → ℕ) → (ℕ → ℕ) → ℕ → ℕ
sum w D zero = 0
sum w D (suc n) = bit_xor (sum w D n) (times (w n) (D n))

-- P's weights are all 1, and Q's weight of data i is 2 to the power i
unfoldable pub one : ℕ → ℕ
one i = 1

unfoldable pub weight : ℕ → ℕ
weight i = pow2 i

-- P and Q of the data: P is the plain sum, and Q the sum by weights
unfoldable pub parity_p : ℕ → (ℕ → ℕ) → ℕ
parity_p d D = sum one D d

unfoldable pub parity_q : ℕ → (ℕ → ℕ) → ℕ
parity_q d D = sum weight D d

-- Parity number j of the data, which role d + j has: the sum by its weights. P is number 0 and Q number 1; no stripe has another.
unfoldable pub weight_in : ℕ → ℕ → ℕ
weight_in zero = one
weight_in (suc _) = weight

unfoldable pub parity_of : ℕ → ℕ → (ℕ → ℕ) → ℕ
parity_of j d D = sum (weight_in j) D d

-- the column with its parities made of the data; with one parity no role is above P's
unfoldable pub made : ℕ → (ℕ → ℕ) → ℕ → ℕ
made d D i = pick (ltb i d) (D i) (pick (eqb i d) (parity_p d D) (parity_q d D))

-- a column that obeys Anvin's equations, one for each of its k parities
pub record Obeys (d k : ℕ) (D : ℕ → ℕ) : Type 0 where
  pub each : (j : ℕ) → j < k → D (d + j) ≡ parity_of j d D

-- ---- recovery of roles x and y; the same role named twice is one missing block

-- no more roles are missing than there are parities, of which there is one at least
abbrev pub Recoverable : ℕ → ℕ → ℕ → Type 0
Recoverable k x y = (x ≡ y) ⊎ (2 ≤ k)

-- the column with 0 for x and y
unfoldable pub without : ℕ → ℕ → (ℕ → ℕ) → ℕ → ℕ
without x y D i = pick (eqb i x) 0 (pick (eqb i y) 0 (D i))

-- Anvin's P + Pxy and Q + Qxy, where Pxy and Qxy are the parities with 0 for x and y: what the missing data gives to P and to Q
unfoldable pub rest_p : ℕ → ℕ → ℕ → (ℕ → ℕ) → ℕ
rest_p d x y D = bit_xor (D d) (parity_p d (without x y D))

unfoldable pub rest_q : ℕ → ℕ → ℕ → (ℕ → ℕ) → ℕ
rest_q d x y D = bit_xor (D (d + 1)) (parity_q d (without x y D))

-- data x, from P alone; from Q alone; from both where data y is missing too. The last solves Dx + Dy = rest_p, 2^x Dx + 2^y Dy = rest_q: it is Anvin's
-- formula with both of its fractions brought over 2^x + 2^y
unfoldable pub from_p : ℕ → ℕ → (ℕ → ℕ) → ℕ
from_p d x D = rest_p d x x D

unfoldable pub from_q : ℕ → ℕ → (ℕ → ℕ) → ℕ
from_q d x D = times (inverse (weight x)) (rest_q d x x D)

unfoldable pub from_both : ℕ → ℕ → ℕ → (ℕ → ℕ) → ℕ
from_both d x y D = times (inverse (bit_xor (weight x) (weight y))) (bit_xor (rest_q d x y D) (times (weight y) (rest_p d x y D)))

-- data x, where y is missing too: from both where y is other data, from Q where y is P, else from P
unfoldable pub solved : ℕ → ℕ → ℕ → (ℕ → ℕ) → ℕ
solved d x y D = pick (eqb x y) (from_p d x D) (pick (ltb y d) (from_both d x y D) (pick (eqb y d) (from_q d x D) (from_p d x D)))

-- the column with its missing data recovered; a missing P or Q has no meaning here
unfoldable pub data_solved : ℕ → ℕ → ℕ → (ℕ → ℕ) → ℕ → ℕ
data_solved d x y D i = pick (eqb i x) (solved d x y D) (pick (eqb i y) (solved d y x D) (D i))

-- the column after recovery: a missing P or Q is made of the data, and a role that is not missing stays
unfoldable pub recovered : ℕ → ℕ → ℕ → (ℕ → ℕ) → ℕ → ℕ
recovered d x y D i = pick (eqb i x) (made d (data_solved d x y D) i) (pick (eqb i y) (made d (data_solved d x y D) i) (D i))
