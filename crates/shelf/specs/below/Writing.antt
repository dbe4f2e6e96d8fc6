-- Words for the contracts of the functions that a write is made of: tables by data index of what a write brings to a stripe, the plan by which a
-- stripe is logged, and blocks copied by tables.
-- Assumes nothing.
use Rattle.std.specs.Prelude.{Bool, true, false, ◌&&◌, List, [], ◌∷◌, ◌++◌, ◌≡◌, ℕ, zero, suc, ◌+◌, ◌*◌, ◌-◌, ◌≤◌, ◌<◌, leb, Option, Some, None, unwrap_or, length, get_or}
use Rattle.stripe.specs.Blocks.{block, put}
use Rattle.shelf.specs.Counting.{choose, count, any}
use Rattle.shelf.specs.below.Tables.{Tests, tested}
use Rattle.shelf.specs.Members.{InRange, addresses, address_of, place_at}
use Rattle.shelf.specs.State.{State, is_some}
use Rattle.shelf.specs.Calls.{pre_read, records_for, places_for, logged, made, overwritten, write_stripe, written, write_to}
use Rattle.shelf.specs.Words.{words}
use Rattle.shelf.specs.below.Lists.{Measures, Lists}
use Rattle.shelf.specs.HashList.{Entry, entry, entries}
use Rattle.shelf.specs.below.Rewriting.{Rewritten, drop_stripe, merged}
use Rattle.shelf.specs.Lent.{Lent, lent, ori_by, cur_by, listed_by, word_of, state_of, array_length}
use Rattle.shelf.specs.below.Entries.{records_in, listed_in}
use Rattle.shelf.specs.below.Reading.{ListReady, Ready}
use Rattle.shelf.specs.below.Showing.{Shows}
use Rattle.shelf.specs.declared.record.Geometry.{Geometry}
use Rattle.shelf.specs.declared.record.Shelf.{Shelf}
use Rattle.shelf.specs.declared.plan.Plan.{Plan}
use Rattle.shelf.specs.declared.share.Share.{Share}
use Rattle.shelf.specs.declared.entries.Records.{Records}

-- ---- blocks copied by tables

-- of the first c indices those that w picks: block (from i) of src is put in as block (to i) of dst
unfoldable pub copied : ℕ → (ℕ → Bool) → (ℕ → ℕ) → (ℕ → ℕ) → ℕ → List ℕ → List ℕ → List ℕ
copied zero w from to b src dst = dst
copied (suc c) w from to b src dst =
    choose (w c) (put b (to c) (block b (from c) src) (copied c w from to b src dst)) (copied c w from to b src dst)

-- each block that w picks lies within a buffer of size bytes
abbrev pub Within : ℕ → (ℕ → Bool) → (ℕ → ℕ) → ℕ → ℕ → Type 0
Within n w at b size = (i : ℕ) → i < n → w i ≡ true → at i * b + b ≤ size

-- ---- what a write brings to a stripe

-- whether a share has a block for data index i, and the number of that block in the caller's data
abbrev pub brings : Share → ℕ → Bool
brings p i = is_some (get_or p.from i None)

abbrev pub from_in : Share → ℕ → ℕ
from_in p i = unwrap_or (get_or p.from i None) 0

-- the share of stripe x in a write of the n blocks of source from address a on
pub record Brought (g : Geometry) (x a n : ℕ) (source : List ℕ) (p : Share) : Type 0 where
  pub stripe : p.x ≡ x
  pub buffer : p.source.now ≡ source
  pub numbers : (i : ℕ) → i < g.d → get_or p.from i None ≡ choose (written g a n x i) (Some (address_of g x i - a)) None

-- the share p tells that the blocks of a stripe that w picks are written, and where in the caller's data their blocks v stand
pub record Shared (g : Geometry) (w : ℕ → Bool) (v : ℕ → List ℕ) (p : Share) : Type 0 where
  pub new : (i : ℕ) → i < g.d → brings p i ≡ w i
  pub blocks : (i : ℕ) → i < g.d → w i ≡ true → block g.b (from_in p i) p.source.now ≡ v i
  pub within : Within g.d w (from_in p) g.b (length p.source.now)

-- ---- the plan of a logged stripe, by numbers

-- the records that a stripe's blocks have: those that w picks the next ones from r on, in rising index; the others keep theirs
unfoldable pub noted : ℕ → (ℕ → Bool) → (ℕ → Option ℕ) → ℕ → Option ℕ
noted r w old i = choose (w i) (Some (r + count i w)) (old i)

-- the table es has the records of old with those of d blocks noted: from r on as Ori of the blocks that pre picks, and from q on as Cur of those that w picks
abbrev pub Noted : ℕ → (ℕ → Bool) → ℕ → (ℕ → Bool) → ℕ → List Records → List Records → Type 0
Noted d pre r w q old es =
    (i : ℕ) → i < d
    → records_in es i
    ≡ record { ori = noted r pre (λ j. (records_in old j).ori) i; cur = noted q w (λ j. (records_in old j).cur) i }

-- whether log and list have room for stripe x where the blocks that w tells are written
abbrev pub has_room : Shelf → List ℕ → ℕ → (ℕ → Bool) → Bool
has_room r l x w =
    leb (r.next + records_for r.geometry.d w (listed_by r.geometry l x)) r.geometry.l
    && leb (r.listed + places_for r.geometry.d w (listed_by r.geometry l x)) r.geometry.e

-- The plan for stripe x where the blocks that w tells are written: there is room; which blocks are pre-read, the entries that the stripe then has, and the
-- next free record then.
pub record Planned (r : Shelf) (l : List ℕ) (x : ℕ) (w : ℕ → Bool) (p : Plan) : Type 0 where
  pub room : has_room r l x w ≡ true
  pub pre : Tests r.geometry.d (pre_read r.geometry.d w (listed_by r.geometry l x)) p.pre
  pub ori : (i : ℕ) → i < r.geometry.d
      → (records_in p.entries i).ori ≡ noted r.next (pre_read r.geometry.d w (listed_by r.geometry l x)) (ori_by r.geometry l x) i
  pub cur : (i : ℕ) → i < r.geometry.d
      → (records_in p.entries i).cur
      ≡ noted (r.next + count r.geometry.d (pre_read r.geometry.d w (listed_by r.geometry l x))) w (cur_by r.geometry l x) i
  pub next : p.next ≡ r.next + records_for r.geometry.d w (listed_by r.geometry l x)

-- the plan, or none where log or list has no room
abbrev pub PlanOf : Shelf → List ℕ → ℕ → (ℕ → Bool) → Option Plan → Type 0
PlanOf r l x w None = has_room r l x w ≡ false
PlanOf r l x w (Some p) = Planned r l x w p

-- ---- a stripe's entries put into the list

-- the entries that f has for the indices that w picks among the first n, in rising index
unfoldable pub picked : ℕ → (ℕ → Bool) → (ℕ → Entry) → List Entry
picked zero w f = []
picked (suc n) w f = choose (w n) (picked n w f ++ (f n ∷ [])) (picked n w f)

-- the entry of address a that has these records
abbrev pub entry_with : ℕ → Records → Entry
entry_with a r = entry a (word_of r.ori) (word_of r.cur)

-- the entries of the listed ones among n blocks with the records es, base the address of the first block
abbrev pub packed : ℕ → ℕ → List Records → List Entry
packed n base es = picked n (listed_in es) (λ i. entry_with (base + i) (records_in es i))

-- the entries es may take the place of stripe x's in the list l of n entries
pub record Relistable (g : Geometry) (x : ℕ) (es : List Records) (n : ℕ) (l : List ℕ) : Type 0 where
  pub measures : Measures g l
  pub lists : Lists (words l) g n
  pub stripe : x < g.s
  pub room : length (drop_stripe g.d x (entries (words l) g)) + count g.d (listed_in es) ≤ g.e

-- the list l' has the entries es in the place of stripe x's in l, and k entries then
abbrev pub Relisted : Geometry → ℕ → List Records → List ℕ → List ℕ → ℕ → Type 0
Relisted g x es l l' k = Rewritten g (merged (packed g.d (x * g.d) es) (drop_stripe g.d x (entries (words l) g))) l' k

-- ---- the copies of a logged stripe

-- the log record, by the plan q, of the original of data index i, and of its latest value
abbrev pub ori_in : Plan → ℕ → ℕ
ori_in q i = unwrap_or (records_in q.entries i).ori 0

abbrev pub cur_in : Plan → ℕ → ℕ
cur_in q i = unwrap_or (records_in q.entries i).cur 0

-- the log with the pre-read blocks of the array put in, by the plan q; and then with the new blocks
unfoldable pub pre_logged : Geometry → ℕ → Plan → List ℕ → List ℕ → List ℕ
pre_logged g x q array log = copied g.d (tested q.pre) (place_at g x) (ori_in q) g.b array log

unfoldable pub new_logged : Geometry → Share → Plan → List ℕ → List ℕ
new_logged g p q log = copied g.d (brings p) (from_in p) (cur_in q) g.b p.source.now log

-- the array with the new blocks of a share
unfoldable pub new_stored : Geometry → Share → List ℕ → List ℕ
new_stored g p array = copied g.d (brings p) (from_in p) (place_at g p.x) g.b p.source.now array

-- the new blocks of a share lie within the caller's data, and within the array, of these many bytes
pub record Storable (g : Geometry) (p : Share) (array : ℕ) : Type 0 where
  pub range : InRange g
  pub stripe : p.x < g.s
  pub long : array ≡ array_length g
  pub within : Within g.d (brings p) (from_in p) g.b (length p.source.now)

-- the blocks that w picks have records, which lie within a log of size bytes
abbrev pub HaveRecords : ℕ → (ℕ → Bool) → (ℕ → Option ℕ) → ℕ → ℕ → Type 0
HaveRecords n w o b size = (i : ℕ) → i < n → w i ≡ true → (is_some (o i) ≡ true) × (unwrap_or (o i) 0 * b + b ≤ size)

-- ---- what the functions for a stripe promise: what shows a state before shows the state after, whatever blocks w and v are that the table tells

-- the share's stripe logged
abbrev pub LogsStripe : Geometry → Share → Lent → Lent → Type 0
LogsStripe g p h h' =
    (s : State) (w : ℕ → Bool) (v : ℕ → List ℕ) → Shared g w v p → Shows g s h → Shows g (logged g s p.x w v) h'

-- what logging the share's stripe asks: the shelf is ready, the share's blocks lie within the caller's data, and the plan is the stripe's
pub record Loggable (h : Lent) (p : Share) (q : Plan) : Type 0 where
  pub ready : Ready h
  pub stripe : p.x < h.shelf.geometry.s
  pub within : Within h.shelf.geometry.d (brings p) (from_in p) h.shelf.geometry.b (length p.source.now)
  pub planned : Planned h.shelf h.list p.x (brings p) q

-- the share's stripe with the blocks written and its parity made afresh, whatever the log n holds
abbrev pub MakesStripe : Share → Shelf → List ℕ → List ℕ → Shelf → List ℕ → List ℕ → Type 0
MakesStripe p r a l r' a' l' =
    (s : State) (w : ℕ → Bool) (v : ℕ → List ℕ) (n : List ℕ) → Shared r.geometry w v p → Shows r.geometry s (lent r a n l)
    → Shows r.geometry (made r.geometry s p.x (overwritten w v (s.disk p.x))) (lent r' a' n l')

-- the share's stripe written, in one of these two ways
abbrev pub WritesStripe : Geometry → Share → Lent → Lent → Type 0
WritesStripe g p h h' =
    (s : State) (w : ℕ → Bool) (v : ℕ → List ℕ) → Shared g w v p → Shows g s h → Shows g (write_stripe g s p.x w v) h'

-- what is asked for the share's stripe: record, array and list have passed rows 1 to 3, as far as its functions ask, some block is written, and all of them
-- stand in the caller's data
pub record Writable (r : Shelf) (a l : List ℕ) (p : Share) : Type 0 where
  pub listing : ListReady r l
  pub array : length a ≡ array_length r.geometry
  pub there : p.x < r.geometry.s
  pub some : any r.geometry.d (brings p) ≡ true
  pub within : Within r.geometry.d (brings p) (from_in p) r.geometry.b (length p.source.now)

-- what is asked for a write of n blocks from address a on
pub record WriteReady (h : Lent) (a n len : ℕ) : Type 0 where
  pub range : InRange h.shelf.geometry
  pub shows : Shows h.shelf.geometry (state_of h) h
  pub some : 0 < n
  pub fits : a + n ≤ addresses h.shelf.geometry
  pub long : len ≡ n * h.shelf.geometry.b

-- the first c stripes written: what is lent after it
abbrev pub WrittenTo : Lent → ℕ → ℕ → ℕ → List ℕ → Lent → Type 0
WrittenTo h c a n from h' = Shows h.shelf.geometry (write_to h.shelf.geometry c a n from (state_of h)) h'
