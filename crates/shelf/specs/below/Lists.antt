-- What the functions on a list ask of it and tell of it: its measures, that it passes number 3, the first place from an address on, and which stripes are
-- stale.
-- Assumes nothing.
use Rattle.std.specs.Prelude.{ℕ, ◌+◌, ◌*◌, ◌≤◌, ◌<◌, ◌≡◌, Bool, true, List, ltb, length}
use Rattle.shelf.specs.declared.record.Geometry.{Geometry}
use Rattle.shelf.specs.Counting.{any}
use Rattle.shelf.specs.HashList.{address_at, lookup, valid}

-- what the list's functions ask of the measures, and that the bytes are h + 4 e words
pub record Measures (g : Geometry) (l : List ℕ) : Type 0 where
  pub d0 : 0 < g.d
  pub d1 : g.d ≤ 16
  pub s1 : g.s ≤ 65536
  pub h0 : 0 < g.h
  pub h1 : g.h ≤ 256
  pub e0 : 0 < g.e
  pub e1 : g.e ≤ 4096
  pub len : length l ≡ 4 * (g.h + 4 * g.e)

-- place p is the first of n places whose address is a or above, where addresses rise: those below it have lower addresses
pub record FirstFrom (w : List ℕ) (h n a p : ℕ) : Type 0 where
  pub within : p ≤ n
  pub lower : (q : ℕ) → q < p → address_at w h q < a
  pub higher : (q : ℕ) → p ≤ q → q < n → a ≤ address_at w h q

-- the list passes number 3 with some next free record and n listed blocks
pub record Lists (w : List ℕ) (g : Geometry) (n : ℕ) : Type 0 where
  pub next : ℕ
  pub passing : valid w g next n ≡ true

-- the block with data index i of stripe x is listed
abbrev pub listed_in : List ℕ → Geometry → ℕ → ℕ → Bool
listed_in w g x i = ltb (lookup w g (x * g.d + i)) g.e

-- stripe x is stale: a block of it is listed. (The customer's paper calls such a stripe waiting.)
unfoldable pub stale_in : List ℕ → Geometry → ℕ → Bool
stale_in w g x = any g.d (listed_in w g x)
