-- Blocks as a fetch's functions find them, by the list's words and by block numbers: they are the state's. And the rows of read and fetch.
-- Assumes nothing.
use mathlib.Core.Bool.{Bool, true, false, not, ◌&&◌}
use mathlib.Core.List.{List}
use mathlib.Core.Logic.{◌≢◌}
use Rattle.std.specs.Prelude.{Option, None as none, Some as some}
use Rattle.std.proofs.lemmas.Option.{none-some, same_Some}
use mathlib.Core.Path.{◌≡◌, refl, sym, ap, ap₂, ◌∙◌, subst}
use Prim.Native.Nat.{ℕ, ◌+◌, ◌*◌, ◌/◌, ◌%◌, ◌≤◌, ◌<◌}
use native.Mathlib.Nat.{mul-le-mul, mod-lt}
use native.Mathlib.Omega.{arith}
use native.Mathlib.Decide.{ℕ_discrete}
use lib.Dec.{eqb, ltb}
use lib.ListN.{length}
use borrow.Author.Tests.{lt-ltb, eq-eqb, ne_eqb, ltb-true, ltb-false, eqb-true}
use Rattle.stripe.proofs.Laws.{one_to_one}
use Rattle.shelf.specs.Counting.{first}
use Rattle.shelf.specs.Members.{InRange, array_members, member_at, place_at, address_of, wanted, other_missing}
use Rattle.shelf.specs.State.{stale}
use Rattle.shelf.specs.Status.{array_failed, bad_address, block_rows, withheld, fetch_withheld, read_failed}
use Rattle.shelf.specs.Calls.{or_else}
use Rattle.shelf.specs.Words.{words}
use Rattle.shelf.specs.HashList.{none_word, said}
use Rattle.shelf.specs.below.Lists.{listed_in, stale_in}
use Rattle.shelf.specs.Lent.{lent, record_at, ori_by, listed_by, flag_at, input_rows}
use Rattle.shelf.specs.below.Records.{failed_role}
use Rattle.shelf.specs.below.Reading.{ListReady, Ready, original_place}
use Rattle.shelf.specs.declared.record.Geometry.{Geometry}
use Rattle.shelf.specs.declared.record.Shelf.{Shelf}
use Rattle.shelf.proofs.agreement.RowParity.{other_first, other_none}
use Rattle.shelf.proofs.general.TestLaws.{cases, choose_true, choose_false, or_right, not_off}
use Rattle.shelf.proofs.hashlist.ListMarks.{listed_found}
use Rattle.shelf.proofs.general.WalkLaws.{first_is}
use Rattle.shelf.proofs.general.CountLaws.{any_ext, any_none, none_any}
use Rattle.shelf.proofs.numbers.TableRows.{blocks_zero}
use Rattle.shelf.proofs.numbers.InputLaws.{Passed, inputs_pass, fine_record}

-- ---- a word as a record

pub record_some : (v : ℕ) → v ≢ none_word → record_at v ≡ some v
unfolding record_at
record_some v n = choose_false (eqb v none_word) none (some v) (ne_eqb v none_word n)

pub record_none : (v : ℕ) → v ≡ none_word → record_at v ≡ none
unfolding record_at
record_none v n = choose_true (eqb v none_word) none (some v) (eq-eqb v none_word n)

pub record_is : (v r : ℕ) → record_at v ≡ some r → (r ≡ v) × (v ≢ none_word)
record_is v r e = elim (ℕ_discrete v none_word) [
  | yes q ↦ absurd (none-some r (sym (record_none v q) ∙ e))
  | no n ↦ (same_Some r v (sym e ∙ record_some v n), n)
]

-- ---- the block numbers of the originals

module _ (g : Geometry) (l : List ℕ) (x i : ℕ) where
  pub number_log : i < g.d → (v : ℕ) → v ≡ (said (words l) g (address_of g x i)).ori → v ≢ none_word → (g.d + g.parities) * g.s + v ≡ original_place g l x i
  unfolding original_place
  number_log h v e n =
      sym (choose_true (ltb i g.d) (or_else (ori_by g l x i) (λ r. array_members g * g.s + r) (place_at g x i)) (place_at g x i) (lt-ltb i g.d h)
      ∙ ap (λ (o : Option ℕ). or_else o (λ r. array_members g * g.s + r) (place_at g x i)) (ap record_at (sym e) ∙ record_some v n))

  pub number_array : (i < g.d → (said (words l) g (address_of g x i)).ori ≡ none_word) → place_at g x i ≡ original_place g l x i
  unfolding original_place
  number_array h =
      cases (ltb i g.d)
      (λ t. sym (choose_true (ltb i g.d) (or_else (ori_by g l x i) (λ r. array_members g * g.s + r) (place_at g x i)) (place_at g x i) t
      ∙ ap (λ (o : Option ℕ). or_else o (λ r. array_members g * g.s + r) (place_at g x i)) (record_none _ (h (ltb-true i g.d t)))))
      (λ t. sym (choose_false (ltb i g.d) (or_else (ori_by g l x i) (λ r. array_members g * g.s + r) (place_at g x i)) (place_at g x i) t))

-- ---- the other missing role, from a walk upwards

-- no role below n but i is missing
abbrev pub NoneBelow : (ℕ → Bool) → ℕ → ℕ → Type 0
NoneBelow m i n = (k : ℕ) → k < n → (m k && not (eqb k i)) ≡ false

module _ (g : Geometry) (m : ℕ → Bool) (i : ℕ) where
  pub other_found : 1 < g.parities → (n : ℕ) → n < array_members g → NoneBelow m i n → m n ≡ true → n ≢ i → n ≡ other_missing g m i
  other_found two n h below t u =
      let f : ℕ → Bool = λ k. m k && not (eqb k i) in
      let here : f n ≡ true = ap₂ (λ (a b : Bool). a && not b) t (ne_eqb n i u) in
      let is : n ≡ first (array_members g) f = first_is (array_members g) f n (omega arith) (λ _. here) below in
      is ∙ sym (other_first g m i two (subst (λ (k : ℕ). k < array_members g) is h))

  pub none_found : NoneBelow m i (array_members g) → i ≡ other_missing g m i
  none_found below =
      let f : ℕ → Bool = λ k. m k && not (eqb k i) in
      let is : array_members g ≡ first (array_members g) f = first_is (array_members g) f (array_members g) (omega arith) (λ z. absurd (omega arith)) below in
      sym (other_none g m i (subst (λ (k : ℕ). array_members g ≤ k) is (omega arith)))

pub below_zero : (m : ℕ → Bool) (i : ℕ) → NoneBelow m i 0
below_zero m i k h = absurd (omega arith)

pub below_self : (m : ℕ → Bool) (i n : ℕ) → NoneBelow m i n → n ≡ i → NoneBelow m i (n + 1)
below_self m i n below e k h = elim (ℕ_discrete k n) [
  | yes q ↦ ap (λ (b : Bool). m k && not b) (eq-eqb k i (q ∙ e)) ∙ last (m k)
  | no q ↦ below k (omega arith)
]
  where
    last : (a : Bool) → (a && false) ≡ false
    last true = refl
    last false = refl

pub below_step : (m : ℕ → Bool) (i n : ℕ) → NoneBelow m i n → m n ≡ false → NoneBelow m i (n + 1)
below_step m i n below e k h = elim (ℕ_discrete k n) [
  | yes q ↦ ap (λ (a : Bool). a && not (eqb k i)) (ap m q ∙ e)
  | no q ↦ below k (omega arith)
]

-- ---- bounds

pub addresses_small : (g : Geometry) → InRange g → g.d * g.s ≤ 1048576
addresses_small g Y = let m : g.d * g.s ≤ 16 * 65536 = mul-le-mul Y.d_most Y.s_most in omega arith

pub address-low : (d s x : ℕ) → d ≤ 16 → s ≤ 65536 → x < s → x * d ≤ 1048576
address-low d s x hd hs h =
    let low : x ≤ 65536 = omega arith in
    let m : x * d ≤ 65536 * 16 = mul-le-mul low hd in omega arith

-- ---- rows 14 and 16, as the code tries them

module _ (r : Shelf) (l : List ℕ) (R : ListReady r l) where
  pub stale_is : (x : ℕ) → stale_in (words l) r.geometry x ≡ stale r.geometry (listed_by r.geometry l) x
  unfolding stale_in
  stale_is x =
      any_ext r.geometry.d (listed_in (words l) r.geometry x) (listed_by r.geometry l x)
      (λ i _. sym (listed_found r.geometry l r.next r.listed R.range R.valid x i))

  module _ (x i : ℕ) where
    pub held-log : flag_at r (r.geometry.d + r.geometry.parities) ≡ false → false ≡ withheld r.geometry (flag_at r) (listed_by r.geometry l) x i
    held-log t = sym (ap (λ (u : Bool). u && (flag_at r (member_at r.geometry x i) && stale r.geometry (listed_by r.geometry l) x)) t)

    pub held_stale : (m : ℕ) → m ≡ member_at r.geometry x i → flag_at r (r.geometry.d + r.geometry.parities) ≡ true → flag_at r m ≡ true → (u : Bool)
        → u ≡ stale_in (words l) r.geometry x → u ≡ withheld r.geometry (flag_at r) (listed_by r.geometry l) x i
    held_stale m e t f u q =
        q ∙ stale_is x
        ∙ sym (ap₂ (λ (v w : Bool). v && (w && stale r.geometry (listed_by r.geometry l) x)) t (ap (flag_at r) (sym e) ∙ f))

  pub none-withheld : (a n : ℕ) → flag_at r (r.geometry.d + r.geometry.parities) ≡ false → fetch_withheld r.geometry (flag_at r) (listed_by r.geometry l) a n ≡ false
  none-withheld a n t = none_any n (wanted r.geometry (withheld r.geometry (flag_at r) (listed_by r.geometry l)) a) (λ j _. sym (held-log ((a + j) / r.geometry.d) ((a + j) % r.geometry.d) t))

-- no block is on a failed disk where no array member has failed
pub role_sound : (r : Shelf) → array_failed r.geometry (flag_at r) ≡ false → (x i : ℕ) → i < array_members r.geometry → failed_role r x i ≡ false
role_sound r e x i h = any_none (array_members r.geometry) (flag_at r) e (member_at r.geometry x i) ((one_to_one r.geometry.layout r.geometry.d r.geometry.parities x).within i h)

pub wanted-sound : (r : Shelf) → 0 < r.geometry.d → array_failed r.geometry (flag_at r) ≡ false → (a j : ℕ) → wanted r.geometry (failed_role r) a j ≡ false
wanted-sound r pos e a j =
    let low = mod-lt (a + j) pos in role_sound r e ((a + j) / r.geometry.d) ((a + j) % r.geometry.d) (omega (arith, low))

pub none-failed : (r : Shelf) → 0 < r.geometry.d → array_failed r.geometry (flag_at r) ≡ false → (a n : ℕ) → read_failed r.geometry (flag_at r) a n ≡ false
none-failed r pos e a n = none_any n (wanted r.geometry (failed_role r) a) (λ j _. wanted-sound r pos e a j)

-- ---- the rows of read and fetch, and what an accepted one gives its functions

pub address-within : (g : Geometry) (a n : ℕ) → bad_address g a n ≡ false → a + n ≤ g.d * g.s
address-within g a n e = ltb-false (g.d * g.s) (a + n) (or_right (eqb n 0) (ltb (g.d * g.s) (a + n)) e)

pub list-ready : (r : Shelf) (na nl : ℕ) (l : List ℕ) → Passed r na nl l → ListReady r l
list-ready r na nl l P =
    record {
      range = P.range;
      room = ltb-false r.geometry.l r.next (fine_record r P.fine).room;
      list = P.list;
      valid = P.valid;
    }

-- an accepted call on blocks, whatever is tried after rows 4 and 5, has passed rows 1 to 3 and has its blocks
pub blocks-ready : (r : Shelf) (a n l : List ℕ) (at count len rest : ℕ)
    → input_rows r (length a) (length n) l true (block_rows r.geometry at count len rest) ≡ 0
    → Ready (lent r a n l) × ((at + count ≤ r.geometry.d * r.geometry.s) × (len ≡ count * r.geometry.b))
blocks-ready r a n l at count len rest z =
    let P = inputs_pass r (length a) (length n) l _ z in
    let four = blocks_zero r.geometry at count len rest P.1 in (
      record { listing = list-ready r (length a) (length n) l P.0; array = P.0.array; log = P.0.log },
      (address-within r.geometry at count four.0, eqb-true len (count * r.geometry.b) (not_off (eqb len (count * r.geometry.b)) four.1.0)),
    )
