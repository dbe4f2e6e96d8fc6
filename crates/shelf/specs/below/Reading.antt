-- Words for the contracts of the functions that read and fetch are made of: what they ask of what is lent, and the blocks of a
-- stripe told by numbers.
-- Assumes nothing.
use Rattle.std.specs.Prelude.{Bool, true, not, ◌&&◌, List, ◌≡◌, ℕ, zero, suc, ◌+◌, ◌*◌, ◌≤◌, ◌<◌, ltb, Option, None, length, get_or}
use Rattle.stripe.specs.Blocks.{gen, put}
use Rattle.stripe.specs.Parity.{solved}
use Rattle.stripe.specs.below.Tables.{Tabled}
use Rattle.shelf.specs.Counting.{choose}
use Rattle.shelf.specs.below.Tables.{Tests}
use Rattle.shelf.specs.Members.{InRange, array_members, place_at, address_of, column, worked_back}
use Rattle.shelf.specs.State.{is_some}
use Rattle.shelf.specs.Calls.{or_else, original, missing, block_at}
use Rattle.shelf.specs.Words.{words}
use Rattle.shelf.specs.HashList.{valid}
use Rattle.shelf.specs.Lent.{Lent, state_of, ori_by, listed_by, array_length, log_length, list_length}
use Rattle.shelf.specs.below.Entries.{records_of, latest}
use Rattle.shelf.specs.below.Records.{failed_role}
use Rattle.shelf.specs.declared.record.Geometry.{Geometry}
use Rattle.shelf.specs.declared.record.Shelf.{Shelf}
use Rattle.shelf.specs.declared.sources.Sources.{Sources}

-- the record and the list have passed rows 1 to 3, as far as a fetch's functions ask
pub record ListReady (r : Shelf) (l : List ℕ) : Type 0 where
  pub range : InRange r.geometry
  pub room : r.next ≤ r.geometry.l
  pub list : length l ≡ list_length r.geometry
  pub valid : valid (words l) r.geometry r.next r.listed ≡ true

-- and the array and the log have their lengths
pub record Ready (h : Lent) : Type 0 where
  pub listing : ListReady h.shelf h.list
  pub array : length h.array ≡ array_length h.shelf.geometry
  pub log : length h.log ≡ log_length h.shelf.geometry

-- the log record that has the latest value of the block with data index i of stripe x, by the list
abbrev pub latest_by : Geometry → List ℕ → ℕ → ℕ → Option ℕ
latest_by g l x i = latest (records_of (words l) g (address_of g x i))

-- the block number of the original of role i, over the array with the log behind it: Ori's record, else the array's block
unfoldable pub original_place : Geometry → List ℕ → ℕ → ℕ → ℕ
original_place g l x i =
    choose (ltb i g.d) (or_else (ori_by g l x i) (λ r. array_members g * g.s + r) (place_at g x i)) (place_at g x i)

-- which roles of stripe x are missing, by record and list
abbrev pub missing_by : Shelf → List ℕ → ℕ → ℕ → Bool
missing_by r l x i =
    choose (ltb i r.geometry.d && listed_by r.geometry l x i) (not (is_some (ori_by r.geometry l x i)))
    (failed_role r x i)

-- the tables of a stripe's sources: the log records of the latest values, the block numbers of the originals, and which of these are missing
pub record SourcesOf (r : Shelf) (l : List ℕ) (x : ℕ) (s : Sources) : Type 0 where
  pub newest : (i : ℕ) → i < r.geometry.d → get_or s.latest i None ≡ latest_by r.geometry l x i
  pub numbers : Tabled (array_members r.geometry) (original_place r.geometry l x) s.originals
  pub lacking : Tests (array_members r.geometry) (missing_by r l x) s.missing

-- the block with data index i of stripe x, solved from the stripe's originals where role y is missing too, or is i itself
unfoldable pub solved_block : Lent → ℕ → ℕ → ℕ → List ℕ
solved_block h x i y =
    gen h.shelf.geometry.b (λ j. solved h.shelf.geometry.d i y (column (original h.shelf.geometry (state_of h) x) j))

-- the block with data index i of stripe x, worked back by parity; and as a fetch gives it
abbrev pub lost_block : Lent → ℕ → ℕ → List ℕ
lost_block h x i = worked_back h.shelf.geometry (missing h.shelf.geometry (state_of h) x) (original h.shelf.geometry (state_of h) x) i

abbrev pub served_block : Lent → ℕ → ℕ → List ℕ
served_block h x i = block_at h.shelf.geometry (state_of h) x i

-- out with m blocks of stripe x, from data index i on, as a fetch gives them, put in from its block j on
unfoldable pub served_to : Lent → ℕ → ℕ → ℕ → ℕ → List ℕ → List ℕ
served_to h x i j zero out = out
served_to h x i j (suc m) out = put h.shelf.geometry.b (j + m) (served_block h x (i + m)) (served_to h x i j m out)
