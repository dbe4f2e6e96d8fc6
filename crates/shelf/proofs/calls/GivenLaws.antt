-- A block as a fetch gives it, out of array and log as lent: on a sound disk, from the log, worked back; and a buffer that is filled with blocks.
-- Assumes nothing.
use mathlib.Core.Bool.{Bool, true, false, ◌||◌}
use mathlib.Core.List.{List, ◌++◌}
use mathlib.Core.Logic.{◌≢◌}
use Rattle.std.specs.Prelude.{Option, None, Some}
use Rattle.std.specs.Option.{option_or}
use Rattle.std.proofs.lemmas.Option.{none-some, same_Some}
use mathlib.Core.Path.{◌≡◌, refl, sym, ap, ap₂, ◌∙◌, subst}
use Prim.Native.Nat.{ℕ, zero, suc, ◌+◌, ◌-◌, ◌*◌, ◌≤◌, ◌<◌}
use native.Mathlib.Nat.{mul-le-mul_right}
use native.Mathlib.Decide.{ℕ_discrete}
use native.Mathlib.Omega.{arith}
use lib.Dec.{ltb}
use lib.ListN.{length, get_or}
use borrow.Author.Tests.{lt-ltb, le-ltb, ne_eqb, ltb-true, ltb-false}
use Rattle.stripe.specs.Blocks.{gen, block, put, byte_of}
use Rattle.stripe.specs.Parity.{Recoverable, solved}
use Rattle.stripe.specs.Places.{numbered, column_at, by_column}
use Rattle.stripe.specs.below.Tables.{Tabled, Held}
use Rattle.stripe.proofs.Laws.{place_lt, array_byte, log_byte, solved_ignores, fits, length-block, get_or-block, length-gen, gen_ext, block-put-same, block-put_other, length-put}
use Rattle.shelf.specs.Members.{array_members, member_at, place_at, wanted, address_of, column, other_missing, worked_back}
use Rattle.shelf.specs.Calls.{or_else, original, block_at}
use Rattle.shelf.specs.Words.{words}
use Rattle.shelf.specs.HashList.{none_word, said, is_record}
use Rattle.shelf.specs.Lent.{Lent, lent, record_at, state_of, ori_by, cur_by, flag_at, array_block, array_length, buffer_of}
use Rattle.shelf.specs.below.Reading.{Ready, latest_by, original_place, missing_by, solved_block, lost_block, served_block, served_to}
use Rattle.shelf.specs.declared.record.Geometry.{Geometry}
use Rattle.shelf.specs.declared.record.Shelf.{Shelf}
use Rattle.shelf.proofs.agreement.ListedLaws.{opt_cases}
use Rattle.shelf.proofs.general.TestLaws.{cases, choose_true, choose_false}
use Rattle.shelf.proofs.general.AddressLaws.{spot_is, spot_within}
use Rattle.shelf.proofs.hashlist.ListMeaning.{said_ori, said_cur}
use Rattle.shelf.proofs.lent.LayoutLaws.{by_role, blocks_of-back}
use Rattle.shelf.proofs.calls.ServedLaws.{record_some, record_none, record_is, number_log, number_array}

-- ---- words that are records

pub record_low : (v next : ℕ) → is_record v next ≡ true → v ≢ none_word → v < next
unfolding is_record
record_low v next t n = ltb-true v next (sym (ap (λ (z : Bool). z || ltb v next) (ne_eqb v none_word n)) ∙ t)

-- Cur, else Ori, else something else
module _ (f : ℕ → List ℕ) (z : List ℕ) where
  pub cur_or_ori : (c o : Option ℕ) (r : ℕ) → option_or c o ≡ Some r → f r ≡ or_else c f (or_else o f z)
  cur_or_ori (Some k) o r e = ap f (sym (same_Some k r e))
  cur_or_ori None o r e = sym (ap (λ (k : Option ℕ). or_else k f z) e)

  pub no_record : (c o : Option ℕ) → option_or c o ≡ None → z ≡ or_else c f (or_else o f z)
  no_record (Some k) o e = absurd (none-some k (sym e))
  no_record None o e = sym (ap (λ (k : Option ℕ). or_else k f z) e)

-- a record that is one of two words
low_record : (c o next r : ℕ) → is_record c next ≡ true → is_record o next ≡ true → option_or (record_at c) (record_at o) ≡ Some r → r < next
low_record c o next r p q e =
    elim (ℕ_discrete c none_word) [
      | yes n ↦ of o q (ap (λ (k : Option ℕ). option_or k (record_at o)) (sym (record_none c n)) ∙ e)
      | no n ↦ of c p (record_some c n ∙ ap (λ (k : Option ℕ). option_or k (record_at o)) (sym (record_some c n)) ∙ e)
    ]
  where
    of : (v : ℕ) → is_record v next ≡ true → record_at v ≡ Some r → r < next
    of v t u = let is = record_is v r u in omega (arith, is.0, record_low v next t is.1)

-- a block of the array lies within it
pub place_room : (g : Geometry) (a : List ℕ) → length a ≡ array_length g → (x i k : ℕ) → x < g.s → i < array_members g → k ≡ place_at g x i → k * g.b + g.b ≤ length a
place_room g a long x i k hx hi e =
    subst (λ (m : ℕ). m * g.b + g.b ≤ length a) (sym e)
    (fits (place_at g x i) ((g.d + g.parities) * g.s) g.b a long (place_lt g.layout g.d g.parities g.s x i hx hi))

-- ---- one stripe of what is lent

module _ (r : Shelf) (a n l : List ℕ) (R : Ready (lent r a n l)) (x : ℕ) (hx : x < r.geometry.s) where
  -- a block has an Ori, or its original is the array's
  ori_or_array : {P : Type 0} (i : ℕ) → (i < r.geometry.d → (said (words l) r.geometry (address_of r.geometry x i)).ori ≢ none_word → P)
      → ((i < r.geometry.d → (said (words l) r.geometry (address_of r.geometry x i)).ori ≡ none_word) → P) → P
  ori_or_array i have not-have =
      elim (ℕ_discrete (said (words l) r.geometry (address_of r.geometry x i)).ori none_word) [
        | yes e ↦ not-have (λ _. e)
        | no u ↦ cases (ltb i r.geometry.d) (λ t. have (ltb-true i r.geometry.d t) u)
            (λ t. let high = ltb-false i r.geometry.d t in not-have (λ h. absurd (omega (arith, h, high))))
      ]

  ori-low : (i : ℕ) → (said (words l) r.geometry (address_of r.geometry x i)).ori ≢ none_word
      → (said (words l) r.geometry (address_of r.geometry x i)).ori < r.geometry.l
  ori-low i u =
      let Y = R.listing.range in
      let low : (said (words l) r.geometry (address_of r.geometry x i)).ori < r.next =
      record_low (said (words l) r.geometry (address_of r.geometry x i)).ori r.next
      (said_ori (words l) r.geometry r.next r.listed (omega (arith, Y.h_least)) (omega (arith, Y.d_least)) Y.e_most R.listing.valid (address_of r.geometry x i)) u in
      omega (arith, low, R.listing.room)

  -- the block numbers lie within array and log
  number_low : (i : ℕ) → i < r.geometry.d + r.geometry.parities → original_place r.geometry l x i < (r.geometry.d + r.geometry.parities) * r.geometry.s + r.geometry.l
  number_low i h =
      ori_or_array i
      (λ hi u. subst (λ (k : ℕ). k < (r.geometry.d + r.geometry.parities) * r.geometry.s + r.geometry.l)
      (number_log r.geometry l x i hi (said (words l) r.geometry (address_of r.geometry x i)).ori refl u) (let low = ori-low i u in omega (arith, low)))
      (λ e. subst (λ (k : ℕ). k < (r.geometry.d + r.geometry.parities) * r.geometry.s + r.geometry.l) (number_array r.geometry l x i e)
      (let low = place_lt r.geometry.layout r.geometry.d r.geometry.parities r.geometry.s x i hx h in omega (arith, low)))

  -- the table holds every role
  pub held_all : (ns : List ℕ) → r.geometry.d + r.geometry.parities ≤ length ns → Tabled (r.geometry.d + r.geometry.parities) (original_place r.geometry l x) ns
      → (m : ℕ) → m ≤ r.geometry.d + r.geometry.parities → Held m r.geometry.b (length a + length n) ns
  held_all ns long tab m hm =
      record {
        long = omega arith;
        within = λ i h.
            let low : get_or ns i 0 < (r.geometry.d + r.geometry.parities) * r.geometry.s + r.geometry.l =
            subst (λ (k : ℕ). k < (r.geometry.d + r.geometry.parities) * r.geometry.s + r.geometry.l) (sym (tab i (omega arith))) (number_low i (omega arith)) in
            let m = mul-le-mul_right r.geometry.b low in
            omega (arith, m, R.array, R.log);
      }

  -- an original that is not in the log is the array's block
  original-array : (i : ℕ) → i < r.geometry.d + r.geometry.parities → (i < r.geometry.d → (said (words l) r.geometry (address_of r.geometry x i)).ori ≡ none_word)
      → original r.geometry (state_of (lent r a n l)) x i ≡ array_block r.geometry a x i
  unfolding state_of
  original-array =
      let g = r.geometry in
      let s = state_of (lent r a n l) in
      by_role g (λ i. (i < g.d → (said (words l) g (address_of g x i)).ori ≡ none_word) → original g s x i ≡ array_block g a x i)
      (λ i h e. choose_true (ltb i g.d) (or_else (ori_by g l x i) s.log.value (s.disk x i)) (s.parity x (i - g.d)) (lt-ltb i g.d h)
      ∙ ap (λ (k : Option ℕ). or_else k s.log.value (s.disk x i)) (record_none (said (words l) g (address_of g x i)).ori (e h)))
      (λ p hp e. choose_false (ltb (g.d + p) g.d) (or_else (ori_by g l x (g.d + p)) s.log.value (s.disk x (g.d + p))) (s.parity x (g.d + p - g.d)) (le-ltb (g.d + p) g.d (omega arith))
      ∙ ap (s.parity x) (let z : g.d + p - g.d ≡ p = omega arith in z))

  original-log : (i : ℕ) → i < r.geometry.d → (said (words l) r.geometry (address_of r.geometry x i)).ori ≢ none_word
      → original r.geometry (state_of (lent r a n l)) x i ≡ block r.geometry.b (said (words l) r.geometry (address_of r.geometry x i)).ori n
  unfolding state_of
  original-log i h u =
      let g = r.geometry in
      let s = state_of (lent r a n l) in
      choose_true (ltb i g.d) (or_else (ori_by g l x i) s.log.value (s.disk x i)) (s.parity x (i - g.d)) (lt-ltb i g.d h)
      ∙ ap (λ (k : Option ℕ). or_else k s.log.value (s.disk x i)) (record_some (said (words l) g (address_of g x i)).ori u)

  -- the table's blocks are the originals
  original_byte : (i j : ℕ) → i < r.geometry.d + r.geometry.parities → j < r.geometry.b
      → byte_of r.geometry.b (a ++ n) (original_place r.geometry l x i) j ≡ get_or (original r.geometry (state_of (lent r a n l)) x i) j 0
  unfolding byte_of
  original_byte i j h hj =
      let g = r.geometry in
      ori_or_array i
      (λ hi u.
      let v : ℕ = (said (words l) g (address_of g x i)).ori in
      ap (λ (k : ℕ). byte_of g.b (a ++ n) k j) (sym (number_log g l x i hi v refl u))
      ∙ log_byte g.b ((g.d + g.parities) * g.s) a n R.array v j
      ∙ sym (get_or-block g.b v n j hj)
      ∙ ap (λ (k : List ℕ). get_or k j 0) (sym (original-log i hi u)))
      (λ e.
      ap (λ (k : ℕ). byte_of g.b (a ++ n) k j) (sym (number_array g l x i e))
      ∙ array_byte g.b ((g.d + g.parities) * g.s) a n R.array (place_at g x i) j (place_lt g.layout g.d g.parities g.s x i hx h) hj
      ∙ sym (get_or-block g.b (place_at g x i) a j hj)
      ∙ ap (λ (k : List ℕ). get_or k j 0) (sym (original-array i h e)))

  -- what is gathered by the table is gathered of the originals
  pub worked_by : (i y : ℕ) (ns work : List ℕ) → i < r.geometry.d → Recoverable r.geometry.parities i y → Tabled (r.geometry.d + r.geometry.parities) (original_place r.geometry l x) ns
      → work ≡ gen r.geometry.b (by_column (solved r.geometry.d i y) (numbered ns) r.geometry.b (a ++ n)) → work ≡ solved_block (lent r a n l) x i y
  unfolding by_column column_at numbered solved_block
  worked_by i y ns work hi few tab is =
      let g = r.geometry in
      is ∙ gen_ext g.b (λ j. solved g.d i y (column_at (numbered ns) g.b (a ++ n) j))
      (λ j. solved g.d i y (column (original g (state_of (lent r a n l)) x) j))
      (λ j hj.
      solved_ignores g.d g.parities i y (column_at (numbered ns) g.b (a ++ n) j) (column (original g (state_of (lent r a n l)) x) j) R.listing.range.parities_least few hi
      (λ k hk _ _. ap (λ (m : ℕ). byte_of g.b (a ++ n) m j) (tab k hk) ∙ original_byte k j hk hj))

  pub worked : (i y : ℕ) (work : List ℕ) → y ≡ other_missing r.geometry (missing_by r l x) i → work ≡ solved_block (lent r a n l) x i y
      → work ≡ lost_block (lent r a n l) x i
  unfolding worked_back state_of solved_block
  worked i y work e is = is ∙ ap (λ (z : ℕ). solved_block (lent r a n l) x i z) e

  -- ---- the block that a fetch gives

  module _ (i : ℕ) where
    pub given_sound : flag_at r (member_at r.geometry x i) ≡ false
        → block r.geometry.b (place_at r.geometry x i) a ≡ served_block (lent r a n l) x i
    unfolding block_at state_of
    given_sound t = sym (choose_false (flag_at r (member_at r.geometry x i)) _ _ t)

    module _ (t : flag_at r (member_at r.geometry x i) ≡ true) where
      pub given_log : (k : ℕ) → latest_by r.geometry l x i ≡ Some k → block r.geometry.b k n ≡ served_block (lent r a n l) x i
      unfolding block_at state_of
      given_log k e =
          cur_or_ori (λ j. block r.geometry.b j n) (lost_block (lent r a n l) x i) (cur_by r.geometry l x i) (ori_by r.geometry l x i) k e
          ∙ sym (choose_true (flag_at r (member_at r.geometry x i)) _ _ t)

      pub given_lost : latest_by r.geometry l x i ≡ None → lost_block (lent r a n l) x i ≡ served_block (lent r a n l) x i
      unfolding block_at state_of
      given_lost e =
          no_record (λ j. block r.geometry.b j n) (lost_block (lent r a n l) x i) (cur_by r.geometry l x i) (ori_by r.geometry l x i) e
          ∙ sym (choose_true (flag_at r (member_at r.geometry x i)) _ _ t)

    pub latest-low : (k : ℕ) → latest_by r.geometry l x i ≡ Some k → k * r.geometry.b + r.geometry.b ≤ length n
    latest-low k e =
        let Y = R.listing.range in
        let w = said (words l) r.geometry (address_of r.geometry x i) in
        let low : k < r.next =
        low_record w.cur w.ori r.next k
        (said_cur (words l) r.geometry r.next r.listed (omega (arith, Y.h_least)) (omega (arith, Y.d_least)) Y.e_most R.listing.valid (address_of r.geometry x i))
        (said_ori (words l) r.geometry r.next r.listed (omega (arith, Y.h_least)) (omega (arith, Y.d_least)) Y.e_most R.listing.valid (address_of r.geometry x i)) e in
        fits k r.geometry.l r.geometry.b n R.log (omega (arith, low, R.listing.room))

    pub lost_length : length (lost_block (lent r a n l) x i) ≡ r.geometry.b
    unfolding worked_back
    lost_length = length-gen r.geometry.b _

    pub given_length : i < r.geometry.d → length (served_block (lent r a n l) x i) ≡ r.geometry.b
    given_length h =
        cases (flag_at r (member_at r.geometry x i))
        (λ t. opt_cases (latest_by r.geometry l x i)
        (λ q. ap length (sym (given_lost t q)) ∙ lost_length)
        (λ k q. ap length (sym (given_log t k q)) ∙ length-block r.geometry.b k n (latest-low k q)))
        (λ t. ap length (sym (given_sound t)) ∙ length-block r.geometry.b (place_at r.geometry x i) a (place_room r.geometry a R.array x i (place_at r.geometry x i) hx (omega arith) refl))

-- ---- a block put into the caller's buffer, by what it is

pub put_as : (b j : ℕ) (out v w o : List ℕ) → o ≡ put b j v out → v ≡ w → o ≡ put b j w out
put_as b j out v w o e q = e ∙ ap (λ (z : List ℕ). put b j z out) q

-- ---- a buffer filled with blocks, one after another

-- the first j blocks of out are f's
abbrev pub FilledTo : ℕ → (ℕ → List ℕ) → ℕ → List ℕ → Type 0
FilledTo b f j out = (k : ℕ) → k < j → block b k out ≡ f k

pub filled_none : (b : ℕ) (f : ℕ → List ℕ) (out : List ℕ) → FilledTo b f 0 out
filled_none b f out k h = absurd (omega arith)

pub filled_next : (b N : ℕ) (f : ℕ → List ℕ) (j : ℕ) (out : List ℕ) → length out ≡ N * b → j < N → length (f j) ≡ b → FilledTo b f j out
    → FilledTo b f (j + 1) (put b j (f j) out)
filled_next b N f j out len h size before k hk = elim (ℕ_discrete k j) [
  | yes q ↦ subst (λ (m : ℕ). block b m (put b j (f j) out) ≡ f m) (sym q) (block-put-same b j out (f j) (fits j N b out len h) size)
  | no q ↦ block-put_other b j k out (f j) (fits j N b out len h) (fits k N b out len (omega arith)) size q ∙ before k (omega arith)
]

pub filled_length : (b N : ℕ) (j : ℕ) (out v : List ℕ) → length out ≡ N * b → j < N → length v ≡ b → length (put b j v out) ≡ N * b
filled_length b N j out v len h size = length-put b j out (fits j N b out len h) v size ∙ len

-- a turn of the loop
pub filled_turn : (b N : ℕ) (f : ℕ → List ℕ) (j : ℕ) (out o : List ℕ) → length out ≡ N * b → j < N → length (f j) ≡ b → FilledTo b f j out
    → o ≡ put b j (f j) out → (length o ≡ N * b) × FilledTo b f (j + 1) o
filled_turn b N f j out o len h size before e = (
  ap length e ∙ filled_length b N j out (f j) len h size,
  subst (λ (z : List ℕ). FilledTo b f (j + 1) z) (sym e) (filled_next b N f j out len h size before),
)

-- a buffer that is filled with all n blocks from address a on
pub filled_all : (g : Geometry) (f : ℕ → ℕ → List ℕ) (a n j : ℕ) (out : List ℕ) → length out ≡ n * g.b → FilledTo g.b (wanted g f a) j out → j ≡ n → out ≡ buffer_of g f a n
unfolding buffer_of
filled_all g f a n j out size F e = blocks_of-back n g.b (wanted g f a) out size (λ k h. sym (F k (omega arith)))

-- A walk over n blocks from address a on, before block j: where that block stands, and the first j blocks of out are the table's.
pub record Walked (g : Geometry) (f : ℕ → ℕ → List ℕ) (a n j x i : ℕ) (out : List ℕ) : Type 0 where
  pub so_far : j ≤ n
  pub size : length out ≡ n * g.b
  pub spot : x * g.d + i ≡ a + j
  pub index : i < g.d
  pub filled : FilledTo g.b (wanted g f a) j out

module _ (g : Geometry) (f : ℕ → ℕ → List ℕ) (a n : ℕ) where
  pub walk_start : (x i : ℕ) (out : List ℕ) → x * g.d + i ≡ a → i < g.d → length out ≡ n * g.b → Walked g f a n 0 x i out
  walk_start x i out e h len =
      record { so_far = omega arith; size = len; spot = omega (arith, e); index = h; filled = filled_none g.b (wanted g f a) out }

  module _ (j x i : ℕ) (out : List ℕ) (W : Walked g f a n j x i out) (h : j < n) where
    pub walk_stripe : a + n ≤ g.d * g.s → x < g.s
    walk_stripe room = spot_within (a + j) g.d g.s x i (omega (arith, W.index)) W.spot (omega (arith, room, h))

    pub walk_turn : (o : List ℕ) (y k : ℕ) → length (f x i) ≡ g.b → o ≡ put g.b j (f x i) out → y * g.d + k ≡ x * g.d + i + 1 → k < g.d
        → Walked g f a n (j + 1) y k o
    walk_turn o y k size e next low =
        let at = spot_is (a + j) g.d x i W.spot W.index in
        let is : f x i ≡ wanted g f a j = ap₂ f at.0 at.1 in
        let turn = filled_turn g.b n (wanted g f a) j out o W.size h (ap length (sym is) ∙ size) W.filled (put_as g.b j out (f x i) (wanted g f a j) o e is) in
        record { so_far = omega (arith, h); size = turn.0; spot = omega (arith, next, W.spot); index = low; filled = turn.1 }

  pub walk_end : (j x i : ℕ) (out : List ℕ) → Walked g f a n j x i out → j ≡ n → out ≡ buffer_of g f a n
  walk_end j x i out W e = filled_all g f a n j out W.size W.filled e

pub ruleset walks = (walk_start, walk_stripe)

-- ---- the blocks of a stripe put in, one after another

module _ (h : Lent) (x i j : ℕ) where
  pub served_start : (out : List ℕ) → out ≡ served_to h x i j 0 out
  unfolding served_to
  served_start out = refl

  pub served_more : (k : ℕ) (out v o : List ℕ) → v ≡ served_to h x i j k out → o ≡ put h.shelf.geometry.b (j + k) (served_block h x (i + k)) v
      → o ≡ served_to h x i j (k + 1) out
  unfolding served_to
  served_more k out v o e q =
      let z : suc k ≡ k + 1 = omega arith in
      q ∙ ap (λ (y : List ℕ). put h.shelf.geometry.b (j + k) (served_block h x (i + k)) y) e ∙ ap (λ (m : ℕ). served_to h x i j m out) z

-- with m blocks of stripe x put in, a buffer that was filled up to block j is filled up to block j + m
module _ (g : Geometry) (h : Lent) (e : h.shelf.geometry ≡ g) (a n x i j : ℕ) (at : x * g.d + i ≡ a + j) where
  pub served_filled : (m : ℕ) → i + m ≤ g.d → j + m ≤ n → ((k : ℕ) → i + k < g.d → length (served_block h x (i + k)) ≡ g.b) → (out : List ℕ)
      → length out ≡ n * g.b → FilledTo g.b (wanted g (served_block h) a) j out
      → (length (served_to h x i j m out) ≡ n * g.b) × FilledTo g.b (wanted g (served_block h) a) (j + m) (served_to h x i j m out)
  unfolding served_to
  served_filled zero low room sizes out len F =
      let z : j ≡ j + 0 = omega arith in (len, subst (λ (k : ℕ). FilledTo g.b (wanted g (served_block h) a) k out) z F)
  served_filled (suc m) low room sizes out len F =
      let before = served_filled m (omega arith) (omega arith) sizes out len F in
      let spot : x * g.d + (i + m) ≡ a + (j + m) = omega (arith, at) in
      let here = spot_is (a + (j + m)) g.d x (i + m) spot (omega arith) in
      let is : served_block h x (i + m) ≡ wanted g (served_block h) a (j + m) = ap₂ (served_block h) here.0 here.1 in
      let turn =
      filled_turn g.b n (wanted g (served_block h) a) (j + m) (served_to h x i j m out) (put h.shelf.geometry.b (j + m) (served_block h x (i + m)) (served_to h x i j m out)) before.0
      (omega arith) (ap length (sym is) ∙ sizes m (omega arith)) before.1
      (ap₂ (λ (b : ℕ) (z : List ℕ). put b (j + m) z (served_to h x i j m out)) (ap (λ (k : Geometry). k.b) e) is) in
      let z : j + m + 1 ≡ j + suc m = omega arith in
      (turn.0, subst (λ (k : ℕ). FilledTo g.b (wanted g (served_block h) a) k (served_to h x i j (suc m) out)) z turn.1)
