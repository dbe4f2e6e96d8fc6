-- Words for the functions below the calls: a stripe's members and block numbers in tables, and what the functions ask of the measures.
-- Assumes nothing.
use Rattle.std.specs.Prelude.{List, ◌≢◌, ◌≡◌, ℕ, zero, suc, ◌+◌, ◌-◌, ◌*◌, ◌≤◌, ◌<◌, ltb, length, get_or}
use Rattle.stripe.specs.Parity.{pick}
use Rattle.stripe.specs.Places.{after_p}

-- the member i after m, of n members counted round
unfoldable pub turned : ℕ → ℕ → ℕ → ℕ
turned n m i = pick (ltb (m + i) n) (m + i) (m + i - n)

-- the member that has data index 0 in stripe x; the other roles follow it round the members
unfoldable pub first_member : ℕ → ℕ → ℕ → ℕ → ℕ
first_member zero d k x = 0
first_member (suc _) d k x = after_p (d + k) x k

-- a buffer of size bytes is whole blocks of b bytes: a block that begins in it ends there
abbrev pub WholeBlocks : ℕ → ℕ → Type 0
WholeBlocks b size = (k : ℕ) → k * b < size → k * b + b ≤ size

-- a table that has at i for each role i of the first n
abbrev pub Tabled : ℕ → (ℕ → ℕ) → List ℕ → Type 0
Tabled n at ns = (i : ℕ) → i < n → get_or ns i 0 ≡ at i

-- a table of the block numbers of the first n roles, of blocks that lie within a buffer of size bytes
pub record Held (n b size : ℕ) (ns : List ℕ) : Type 0 where
  pub long : n ≤ length ns
  pub within : (i : ℕ) → i < n → get_or ns i 0 * b + b ≤ size

-- a table of the block numbers of the first n roles, of blocks that lie within a buffer of size bytes, each role its own block
pub record Placed (n b size : ℕ) (ns : List ℕ) : Type 0 where
  pub long : n ≤ length ns
  pub within : (i : ℕ) → i < n → get_or ns i 0 * b + b ≤ size
  pub own : (i j : ℕ) → i < n → j < n → i ≢ j → get_or ns i 0 ≢ get_or ns j 0

-- d data blocks and k parities, as many as a stripe has
pub record Roles (d k : ℕ) : Type 0 where
  pub data_least : 1 ≤ d
  pub data_most : d ≤ 16
  pub parity-least : 1 ≤ k
  pub parity-most : k ≤ 2

-- a stripe in a buffer of its own, of size bytes
pub record Whole (d k b size : ℕ) : Type 0 where
  pub data_least : 2 ≤ d
  pub data_most : d ≤ 16
  pub parity-least : 1 ≤ k
  pub parity-most : k ≤ 2
  pub block-least : 1 ≤ b
  pub block-most : b ≤ 4096
  pub size_is : size ≡ (d + k) * b

-- stripe x of S in an array of size bytes
pub record Measures (d k S x b size : ℕ) : Type 0 where
  pub data_least : 2 ≤ d
  pub data_most : d ≤ 16
  pub parity-least : 1 ≤ k
  pub parity-most : k ≤ 2
  pub stripes_most : S ≤ 65536
  pub stripe-there : x < S
  pub block-least : 1 ≤ b
  pub block-most : b ≤ 4096
  pub size_is : size ≡ (d + k) * S * b
