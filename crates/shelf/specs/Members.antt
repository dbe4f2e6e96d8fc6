-- The members of a shelf, its block addresses and its blocks. The letters are those of the geometry: d data blocks a stripe, s stripes, blocks of b
-- bytes, a log of l records, a list of h hash slots and e places; the layout, 0 fixed or 1 rotating; and the number of parities, 1 or 2.
-- Assumes nothing.
use Rattle.std.specs.Prelude.{Bool, not, ◌&&◌, List, ◌≡◌, ℕ, ◌+◌, ◌*◌, ◌/◌, ◌%◌, ◌≤◌, eqb, ltb, length, get_or}
use Rattle.stripe.specs.Blocks.{gen}
use Rattle.stripe.specs.Parity.{parity_of, solved}
use Rattle.stripe.specs.Places.{member_of, place}
use Rattle.stripe.specs.Sound.{AreBytes}
use Rattle.shelf.specs.Counting.{choose, first}
use Rattle.shelf.specs.declared.record.Geometry.{Geometry}

-- the measures in their ranges
pub record InRange (g : Geometry) : Type 0 where
  pub d_least : 2 ≤ g.d
  pub d_most : g.d ≤ 16
  pub s_least : 1 ≤ g.s
  pub s_most : g.s ≤ 65536
  pub b_least : 1 ≤ g.b
  pub b_most : g.b ≤ 4096
  pub l_least : 1 ≤ g.l
  pub l_most : g.l ≤ 65536
  pub h_least : 1 ≤ g.h
  pub h_most : g.h ≤ 256
  pub e_least : 1 ≤ g.e
  pub e_most : g.e ≤ 4096
  pub layout_most : g.layout ≤ 1
  pub parities_least : 1 ≤ g.parities
  pub parities_most : g.parities ≤ 2

-- Members are numbered from 0: those of the array, then the log. In the fixed layout the array's are the data disks, then the parities; in the rotating
-- one each of them has another role from stripe to stripe.
abbrev pub array_members : Geometry → ℕ
array_members g = g.d + g.parities

abbrev pub log_member : Geometry → ℕ
log_member g = g.d + g.parities

abbrev pub all_members : Geometry → ℕ
all_members g = g.d + g.parities + 1

-- a stripe's roles: data index 0 to d - 1, then its parities: P is number 0, Q, where there are two, number 1
abbrev pub parity_role : Geometry → ℕ → ℕ
parity_role g p = g.d + p

-- the member that has role i in stripe x, by the layout; and the number of its block in the array
abbrev pub member_at : Geometry → ℕ → ℕ → ℕ
member_at g x i = member_of g.layout g.d g.parities x i

abbrev pub place_at : Geometry → ℕ → ℕ → ℕ
place_at g x i = place g.layout g.d g.parities g.s x i

-- Block addresses run below d * s. Address a sits in stripe a / d, rounded down, at data index a mod d; and data index i of stripe x has address
-- x * d + i.
abbrev pub addresses : Geometry → ℕ
addresses g = g.d * g.s

abbrev pub stripe_of : Geometry → ℕ → ℕ
stripe_of g a = a / g.d

abbrev pub index_of : Geometry → ℕ → ℕ
index_of g a = a % g.d

abbrev pub address_of : Geometry → ℕ → ℕ → ℕ
address_of g x i = x * g.d + i

-- of a table by stripe and data index, what it has for block j of those from address a on
abbrev pub wanted : {A : Type 0} → Geometry → (ℕ → ℕ → A) → ℕ → ℕ → A
wanted g t a j = t (stripe_of g (a + j)) (index_of g (a + j))

-- ---- blocks: lists of b bytes

abbrev pub IsBlock : Geometry → List ℕ → Type 0
IsBlock g v = (length v ≡ g.b) × AreBytes v

unfoldable pub blank : Geometry → List ℕ
blank g = gen g.b (λ _. 0)

-- byte j of each block of a row: a column, of which the stripe's mathematics speaks
abbrev pub column : (ℕ → List ℕ) → ℕ → ℕ → ℕ
column row j i = get_or (row i) j 0

-- parity number p of a row of data blocks, byte by byte
unfoldable pub block_parity : Geometry → ℕ → (ℕ → List ℕ) → List ℕ
block_parity g p row = gen g.b (λ j. parity_of p g.d (column row j))

-- The other missing role beside i: the lowest one, or i itself where no other is missing. With one parity it is i: where a fetch or a rebuild is
-- accepted and i is worked back, no other is missing.
unfoldable pub other_missing : Geometry → (ℕ → Bool) → ℕ → ℕ
other_missing g missing i =
    let y = first (array_members g) (λ n. missing n && not (eqb n i)) in choose (ltb 1 g.parities && ltb y (array_members g)) y i

-- data block i of a row of d + parities blocks, worked back from those that are not missing; i is, and with it no more than there are parities
unfoldable pub worked_back : Geometry → (ℕ → Bool) → (ℕ → List ℕ) → ℕ → List ℕ
worked_back g missing row i = gen g.b (λ j. solved g.d i (other_missing g missing i) (column row j))
