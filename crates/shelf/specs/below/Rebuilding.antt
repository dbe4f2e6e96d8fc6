-- Words for the contracts of the functions that a rebuild is made of: what they ask of what is lent; the array with blocks filled as a fetch gives
-- them, one after another and stripe after stripe, and the record and the list after it.
-- Assumes nothing.
use Rattle.std.specs.Prelude.{Bool, true, List, ◌≡◌, ℕ, zero, suc, ◌≤◌, ◌<◌, None}
use Rattle.stripe.specs.Blocks.{put}
use Rattle.stripe.specs.Places.{parity_made}
use Rattle.shelf.specs.Counting.{choose, count, any}
use Rattle.shelf.specs.Members.{array_members, place_at}
use Rattle.shelf.specs.Status.{withheld}
use Rattle.shelf.specs.Calls.{parity_failed}
use Rattle.shelf.specs.Words.{words}
use Rattle.shelf.specs.HashList.{Entry, entries}
use Rattle.shelf.specs.Lent.{Lent, lent, flag_at, listed_by, array_block}
use Rattle.shelf.specs.below.Rewriting.{drop_stripes}
use Rattle.shelf.specs.below.Records.{failed_role, with_listed, with_cleared}
use Rattle.shelf.specs.below.Reading.{Ready, latest_by, served_block}
use Rattle.shelf.specs.declared.record.Shelf.{Shelf}

-- ---- of one stripe: a parity is on a failed member; a data block is; row 14 applies to a data block

abbrev pub parity_failed_at : Shelf → ℕ → Bool
parity_failed_at r x = parity_failed r.geometry (flag_at r) x

abbrev pub data_failed_at : Shelf → ℕ → Bool
data_failed_at r x = any r.geometry.d (failed_role r x)

abbrev pub withheld_at : Shelf → List ℕ → ℕ → Bool
withheld_at r l x = any r.geometry.d (λ i. withheld r.geometry (flag_at r) (listed_by r.geometry l) x i)

-- ---- what the functions ask

-- what a fetch's functions ask of what is lent, and no more failed members of the array than there are parities
pub record Rebuildable (h : Lent) : Type 0 where
  pub ready : Ready h
  pub few : count (array_members h.shelf.geometry) (flag_at h.shelf) ≤ h.shelf.geometry.parities

-- the block of data index i of stripe x is on a failed member and not in the log
abbrev pub Lost : Shelf → List ℕ → ℕ → ℕ → Type 0
Lost r l x i = (failed_role r x i ≡ true) × (latest_by r.geometry l x i ≡ None)

-- the data blocks of stripe x below i that are on failed members are filled
abbrev pub FilledBelow : Lent → ℕ → ℕ → Type 0
FilledBelow h x i =
    (k : ℕ) → k < i → failed_role h.shelf x k ≡ true → array_block h.shelf.geometry h.array x k ≡ served_block h x k

-- ---- the array

-- what is lent, with another array
abbrev pub with_array : Lent → List ℕ → Lent
with_array h a = lent h.shelf a h.log h.list

-- with the block of data index i of stripe x as a fetch gives it
unfoldable pub filled_at : Lent → ℕ → ℕ → List ℕ
filled_at h x i = put h.shelf.geometry.b (place_at h.shelf.geometry x i) (served_block h x i) h.array

-- with the first c data blocks of stripe x filled so, in rising data index
unfoldable pub filled_to : Lent → ℕ → ℕ → List ℕ
filled_to h x zero = h.array
filled_to h x (suc c) = filled_at (with_array h (filled_to h x c)) x c

-- stripe x rebuilt: its data blocks filled, then the parities made of them where one of these was on a failed member
unfoldable pub stripe_rebuilt : Lent → ℕ → List ℕ
stripe_rebuilt h x =
    let g = h.shelf.geometry in
    let a = filled_to h x g.d in
    choose (parity_failed_at h.shelf x) (parity_made (place_at g x) g.d g.parities g.b a) a

-- the first n stripes rebuilt, in rising order
unfoldable pub rebuilt_to : Lent → ℕ → List ℕ
rebuilt_to h zero = h.array
rebuilt_to h (suc n) = stripe_rebuilt (with_array h (rebuilt_to h n)) n

-- ---- the record and the list

-- the record with the array's flags cleared and n blocks left listed
abbrev pub rebuilt_record : Shelf → ℕ → Shelf
rebuilt_record r n = with_listed (with_cleared r) n

-- the entries of the stripes that kept their parity
abbrev pub kept_entries : Shelf → List ℕ → List Entry
kept_entries r l = drop_stripes r.geometry.d (parity_failed_at r) (entries (words l) r.geometry)
