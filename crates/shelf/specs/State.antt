-- What a shelf holds, by stripe and data index: the blocks of its members, its log, and what its list says of each block. The bytes of the
-- record and of the lent buffers are read as such a state (`Lent.antt`).
-- Assumes nothing.
use Rattle.std.specs.Prelude.{Bool, true, false, ◌||◌, List, ℕ}
use Rattle.std.specs.Prelude.{Option, None as none, Some as some}
use Rattle.shelf.specs.Counting.{count, total, any, first}
use Rattle.shelf.specs.Members.{blank}
use Rattle.shelf.specs.declared.record.Geometry.{Geometry}

-- The log and its list. A block that is listed has a log record of its original (Ori), one of its latest value (Cur), or both.
pub record Log : Type 0 where
  -- the block in each log record
  pub value : ℕ → List ℕ
  -- the next free record
  pub next : ℕ
  -- the records of the block at a stripe and data index
  pub ori : ℕ → ℕ → Option ℕ
  pub cur : ℕ → ℕ → Option ℕ

pub record State : Type 0 where
  -- the block that the disk of a stripe's data index holds, and the stripe's parities by number: 0 is P, 1 is Q
  pub disk : ℕ → ℕ → List ℕ
  pub parity : ℕ → ℕ → List ℕ
  pub log : Log
  -- 0 normal, 1 accelerating, 2 transitional
  pub mode : ℕ
  -- which members have failed
  pub failed : ℕ → Bool

unfoldable pub is_some : Option ℕ → Bool
is_some none = false
is_some (some r) = true

-- a block is listed where one of its two records is there
abbrev pub listed : Log → ℕ → ℕ → Bool
listed n x i = is_some (n.ori x i) || is_some (n.cur x i)

-- ---- of blocks that are marked: the shelf's listed ones, or those that the book marks

-- A stripe with a marked block is stale: its parity is put off. Of the shelf's stripes the customer's paper says waiting, of the book's, awaiting
-- resynchronisation.
abbrev pub stale : Geometry → (ℕ → ℕ → Bool) → ℕ → Bool
stale g m x = any g.d (m x)

-- how many blocks are marked in all
abbrev pub marks_in : Geometry → (ℕ → ℕ → Bool) → ℕ
marks_in g m = total g.s (λ x. count g.d (m x))

-- the lowest stale stripe, or s
abbrev pub lowest_stale : Geometry → (ℕ → ℕ → Bool) → ℕ
lowest_stale g m = first g.s (stale g m)

-- how many stripes are stale
abbrev pub stale_count : Geometry → (ℕ → ℕ → Bool) → ℕ
stale_count g m = count g.s (stale g m)

-- ---- a fresh shelf, as format leaves it

unfoldable pub fresh_state : Geometry → State
fresh_state g =
    record {
      disk = λ _ _. blank g;
      parity = λ _ _. blank g;
      log = record { value = λ _. blank g; next = 0; ori = λ _ _. none; cur = λ _ _. none };
      mode = 0;
      failed = λ _. false;
    }
