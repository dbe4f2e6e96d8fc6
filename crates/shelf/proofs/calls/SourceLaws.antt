-- The sources of a stripe, from its entries and its failed roles: the tables as the code fills them, one data index after another.
-- Assumes nothing.
use mathlib.Core.Bool.{Bool, true, false, not, ◌&&◌, ◌||◌}
use mathlib.Core.List.{List}
use Rattle.std.specs.Prelude.{Option, None, Some, IfSome, is_some as there}
use mathlib.Core.Path.{◌≡◌, refl, sym, ap, ap₂, ◌∙◌}
use Prim.Native.Nat.{ℕ, ◌+◌, ◌*◌, ◌≤◌, ◌<◌}
use native.Mathlib.Decide.{dec_lt}
use native.Mathlib.Omega.{arith}
use lib.Dec.{eqb, ltb}
use lib.ListN.{length, get_or, set, replicate, length-replicate, get_or-replicate}
use Rattle.std.proofs.lemmas.List.{get_or_past}
use lib.Seq.{get_or-set_same, get_or-set_other}
use borrow.Author.Count.{below_more}
use borrow.Author.Tests.{lt-ltb, le-ltb}
use Rattle.stripe.specs.below.Tables.{Tabled}
use Rattle.shelf.specs.Counting.{choose}
use Rattle.shelf.specs.below.Tables.{Tests, tested}
use Rattle.shelf.specs.Members.{array_members, place_at, address_of, other_missing}
use Rattle.shelf.specs.State.{is_some}
use Rattle.shelf.specs.Words.{words}
use Rattle.shelf.specs.Calls.{or_else}
use Rattle.shelf.specs.HashList.{said}
use Rattle.shelf.specs.Lent.{ori_by, listed_by}
use Rattle.shelf.specs.below.Entries.{no_records, records_in, EntriesOf, latest, is_missing}
use Rattle.shelf.specs.below.Records.{failed_role}
use Rattle.shelf.specs.below.Reading.{ListReady, original_place, missing_by, SourcesOf}
use Rattle.shelf.specs.declared.record.Shelf.{Shelf}
use Rattle.shelf.specs.declared.entries.Records.{Records}
use Rattle.shelf.proofs.general.TestLaws.{choose_true, choose_false}
use Rattle.shelf.proofs.general.CountLaws.{first_ext}
use Rattle.shelf.proofs.hashlist.ListMeaning.{said_ori}
use Rattle.shelf.proofs.calls.ServedLaws.{record_is, number_array}
use Rattle.shelf.proofs.calls.GivenLaws.{record_low}
use Rattle.shelf.proofs.calls.PlanLaws.{none-entries}

-- ---- the records of a block, as std's tests tell of them

pub std_some : (o : Option ℕ) → there o ≡ is_some o
unfolding is_some
std_some None = refl
std_some (Some r) = refl

pub listed_ori : (o c : Option ℕ) (t : Bool) → t ≡ there o → t ≡ true → t ≡ (is_some o || is_some c)
listed_ori o c t e y = y ∙ sym (ap (λ (z : Bool). z || is_some c) (sym (std_some o) ∙ sym e ∙ y))

pub listed_cur : (o c : Option ℕ) (t u : Bool) → t ≡ there o → t ≡ false → u ≡ there c → u ≡ (is_some o || is_some c)
listed_cur o c t u e n q = q ∙ std_some c ∙ sym (ap (λ (z : Bool). z || is_some c) (sym (std_some o) ∙ sym e ∙ n))

-- a data block's original is missing, by its records o and c; t tells that it has no Ori
module _ (o c : Option ℕ) (b t : Bool) (e : there o ≡ not t) where
  pub missing_has : t ≡ false → t ≡ choose (is_some o || is_some c) (not (is_some o)) b
  unfolding choose
  missing_has n = n ∙ sym (ap (λ (z : Bool). choose (z || is_some c) (not z) b) (sym (std_some o) ∙ e ∙ ap not n))

  pub missing_lacks : t ≡ true → (u : Bool) → u ≡ there c → u ≡ true → u ≡ choose (is_some o || is_some c) (not (is_some o)) b
  unfolding choose
  missing_lacks y u q on =
      on ∙ sym (ap₂ (λ (z v : Bool). choose (z || v) (not z) b) (sym (std_some o) ∙ e ∙ ap not y) (sym (std_some c) ∙ sym q ∙ on))

  pub missing_unlisted : t ≡ true → (u : Bool) → u ≡ there c → u ≡ false → b ≡ choose (is_some o || is_some c) (not (is_some o)) b
  unfolding choose
  missing_unlisted y u q off =
      sym (ap₂ (λ (z v : Bool). choose (z || v) (not z) b) (sym (std_some o) ∙ e ∙ ap not y) (sym (std_some c) ∙ sym q ∙ off))

-- ---- a table worked out one index after another

-- below i the table has f, from i on what it had
pub record Mapped {A : Type 0} (i : ℕ) (f : ℕ → A) (z : A) (old x : List A) : Type 0 where
  pub below : (j : ℕ) → j < i → get_or x j z ≡ f j
  pub above : (j : ℕ) → i ≤ j → get_or x j z ≡ get_or old j z

pub mapped_start : {A : Type 0} (f : ℕ → A) (z : A) (x : List A) → Mapped 0 f z x x
mapped_start f z x = record { below = λ j h. absurd (omega arith); above = λ j h. refl }

pub mapped_turn : {A : Type 0} (i : ℕ) (f : ℕ → A) (z : A) (old x : List A) (v : A) → i < length x → v ≡ f i → Mapped i f z old x → Mapped (i + 1) f z old (set x i v)
mapped_turn i f z old x v l e M =
    record {
      below = below_more (λ (j : ℕ). get_or (set x i v) j z ≡ f j) i (λ j p. get_or-set_other x i j v z (λ u. omega arith) ∙ M.below j p) (get_or-set_same x i v z l ∙ e);
      above = λ j p. get_or-set_other x i j v z (λ u. omega arith) ∙ M.above j (omega arith);
    }

-- ---- the sources of a stripe, from its entries es, the array's block numbers old and the roles that are lost

abbrev pub newest_in : List Records → ℕ → Option ℕ
newest_in es k = latest (records_in es k)

abbrev pub number_in : ℕ → List Records → List ℕ → ℕ → ℕ
number_in log es old k = or_else (records_in es k).ori (λ r. log + r) (get_or old k 0)

abbrev pub lacking_in : List Records → List Bool → ℕ → Bool
lacking_in es lost k = is_missing (records_in es k) (get_or lost k false)

module _ (r : Shelf) (l : List ℕ) (x : ℕ) where
  -- the record of an original is a word
  pub ori_word : ListReady r l → (i : ℕ) (o : Option ℕ) → o ≡ ori_by r.geometry l x i → IfSome o (λ k. k < 4294967296)
  ori_word R i None e = tt
  ori_word R i (Some k) e =
      let Y = R.range in
      let v : ℕ = (said (words l) r.geometry (address_of r.geometry x i)).ori in
      let is = record_is v k (sym e) in
      let low : v < r.next =
      record_low v r.next (said_ori (words l) r.geometry r.next r.listed (omega (arith, Y.h_least)) (omega (arith, Y.d_least)) Y.e_most R.valid (address_of r.geometry x i)) is.1 in
      omega (arith, low, is.0, R.room, Y.l_most)

  pub sources_end : (es : List Records) (log i : ℕ) (old ns : List ℕ) (empty ls : List (Option ℕ)) (lost ms : List Bool) → i ≡ r.geometry.d
      → log ≡ (array_members r.geometry) * r.geometry.s → EntriesOf r.geometry l x es → Tabled (array_members r.geometry) (place_at r.geometry x) old
      → Tests (array_members r.geometry) (failed_role r x) lost → Mapped i (newest_in es) None empty ls → Mapped i (number_in log es old) 0 old ns
      → Mapped i (lacking_in es lost) false lost ms → SourcesOf r l x (record { latest = ls; originals = ns; missing = ms })
  unfolding original_place
  sources_end es log i old ns empty ls lost ms e el R tab failed M N L =
      record {
        newest = λ k h. M.below k (omega arith) ∙ ap latest (R k h);
        numbers = λ k h. elim (dec_lt k r.geometry.d) [
          | yes p ↦ N.below k (omega arith) ∙ number_is k p
          | no p ↦ N.above k (omega arith) ∙ tab k h ∙ number_array r.geometry l x k (λ q. absurd (p q))
        ];
        lacking = λ k h. elim (dec_lt k r.geometry.d) [
          | yes p ↦ L.below k (omega arith) ∙ lacking-is k p
          | no p ↦ L.above k (omega arith) ∙ failed k h ∙ outside k (omega arith)
        ];
      }
    where
      number_is : (k : ℕ) → k < r.geometry.d → number_in log es old k ≡ original_place r.geometry l x k
      number_is k h =
          ap (λ (z : Records). or_else z.ori (λ n. log + n) (get_or old k 0)) (R k h)
          ∙ ap₂ (λ (m n : ℕ). or_else (ori_by r.geometry l x k) (λ j. m + j) n) el (tab k (omega arith))
          ∙ sym (choose_true (ltb k r.geometry.d) _ (place_at r.geometry x k) (lt-ltb k r.geometry.d h))

      lacking-is : (k : ℕ) → k < r.geometry.d → lacking_in es lost k ≡ missing_by r l x k
      lacking-is k h =
          ap₂ (λ (z : Records) (b : Bool). is_missing z b) (R k h) (failed k (omega arith))
          ∙ ap (λ (z : Bool). choose (z && listed_by r.geometry l x k) (not (is_some (ori_by r.geometry l x k))) (failed_role r x k)) (sym (lt-ltb k r.geometry.d h))

      outside : (k : ℕ) → r.geometry.d ≤ k → failed_role r x k ≡ missing_by r l x k
      outside k h =
          sym (choose_false (ltb k r.geometry.d && listed_by r.geometry l x k) (not (is_some (ori_by r.geometry l x k))) (failed_role r x k)
          (ap (λ (z : Bool). z && listed_by r.geometry l x k) (le-ltb k r.geometry.d h)))

  -- where nothing is listed, the array's own
  pub none-sources : (old : List ℕ) (lost : List Bool) → ListReady r l → x < r.geometry.s → r.listed ≡ 0
      → Tabled (array_members r.geometry) (place_at r.geometry x) old → Tests (array_members r.geometry) (failed_role r x) lost
      → SourcesOf r l x (record { latest = replicate 16 None; originals = old; missing = lost })
  unfolding choose is_some
  none-sources old lost R hx z tab failed =
      let Y = R.range in
      let none : (j : ℕ) → records_in (replicate 16 no_records) j ≡ no_records = λ j. get_or-replicate_same 16 j no_records in
      sources_end (replicate 16 no_records) ((array_members r.geometry) * r.geometry.s) r.geometry.d old old (replicate 16 None) (replicate 16 None) lost lost refl refl
      (λ j h. none j ∙ none-entries r.geometry l r.next r.listed x Y R.valid z hx j h) tab failed
      (record { below = λ j h. get_or-replicate_same 16 j None ∙ sym (ap latest (none j)); above = λ j h. refl })
      (record { below = λ j h. sym (ap (λ (n : Records). or_else n.ori (λ k. (array_members r.geometry) * r.geometry.s + k) (get_or old j 0)) (none j)); above = λ j h. refl })
      (record { below = λ j h. sym (ap (λ (n : Records). is_missing n (get_or lost j false)) (none j)); above = λ j h. refl })
    where
      get_or-replicate_same : {A : Type 0} (n j : ℕ) (z : A) → get_or (replicate n z) j z ≡ z
      get_or-replicate_same n j z = elim (dec_lt j n) [
        | yes p ↦ get_or-replicate n j z z p
        | no p ↦ get_or_past (replicate n z) j z (omega (arith, length-replicate n z))
      ]

  -- the other missing role, by the table
  pub other_by : (ms : List Bool) (i y : ℕ) → Tests (array_members r.geometry) (missing_by r l x) ms → y ≡ other_missing r.geometry (tested ms) i
      → y ≡ other_missing r.geometry (missing_by r l x) i
  unfolding other_missing
  other_by ms i y T e =
      e ∙ ap (λ (z : ℕ). choose (ltb 1 r.geometry.parities && ltb z (array_members r.geometry)) z i)
      (first_ext (array_members r.geometry) (λ n. tested ms n && not (eqb n i)) (λ n. missing_by r l x n && not (eqb n i)) (λ n h. ap (λ (b : Bool). b && not (eqb n i)) (T n h)))
