-- The array as a rebuild fills it, block by block and stripe by stripe. What stands in failed members' blocks does not tell in the block that a
-- fetch gives, so each is filled with what a fetch gives of the array as it was; and parity is that of the blocks filled.
-- Assumes nothing.
use mathlib.Core.Bool.{Bool, true, false, not, ◌&&◌}
use mathlib.Core.List.{List}
use mathlib.Core.Logic.{◌≢◌, ◌⊎◌, inl, inr, ⊎_elim}
use Rattle.std.specs.Prelude.{Option, None as none, Some as some}
use Rattle.std.specs.Option.{option_or}
use mathlib.Core.Path.{◌≡◌, refl, sym, ap, ap₂, ◌∙◌, subst}
use Prim.Native.Nat.{ℕ, zero, suc, ◌+◌, ◌-◌, ◌*◌, ◌≤◌, ◌<◌}
use Rattle.std.specs.Prelude.{max}
use native.Mathlib.Decide.{ℕ_discrete, dec_lt}
use native.Mathlib.Omega.{arith}
use lib.Dec.{eqb, ltb}
use lib.ListN.{length, get_or}
use borrow.Author.Tests.{lt-ltb, le-ltb, ltb-true}
use Rattle.stripe.specs.Blocks.{block, put}
use Rattle.stripe.specs.Parity.{Recoverable, solved}
use Rattle.stripe.specs.Places.{place, parity_made}
use Rattle.stripe.proofs.Laws.{fits, place_lt, place_inj, place_other, put-block, block-put-same, block-put_other, length-put, get_or-block, solved_ignores, second_filled, get_or-gen, gen_ext}
use Rattle.shelf.specs.Counting.{choose, count, any, first}
use Rattle.shelf.specs.below.Records.{Sized}
use Rattle.shelf.specs.Members.{array_members, member_at, place_at, address_of, column, block_parity, other_missing, worked_back}
use Rattle.shelf.specs.State.{State, listed}
use Rattle.shelf.specs.Calls.{settled, or_else, original, missing, block_at, rebuilt}
use Rattle.shelf.specs.Words.{words}
use Rattle.shelf.specs.HashList.{none_word, said, lookup}
use Rattle.shelf.specs.Lent.{Lent, lent, flag_at, ori_by, cur_by, listed_by, state_of, array_block, array_length, role_block}
use Rattle.shelf.specs.below.Reading.{ListReady, Ready, latest_by, missing_by, solved_block, lost_block, served_block}
use Rattle.shelf.specs.below.Rebuilding.{Rebuildable, Lost, FilledBelow, parity_failed_at, with_array, filled_at, filled_to, stripe_rebuilt, rebuilt_to}
use Rattle.shelf.specs.declared.record.Geometry.{Geometry}
use Rattle.shelf.specs.declared.record.Shelf.{Shelf}
use Rattle.shelf.proofs.general.TestLaws.{cases, clash, choose_true, choose_false, and_left}
use Rattle.shelf.proofs.general.CountLaws.{first_found, first_none}
use Rattle.shelf.proofs.lent.LayoutLaws.{role_data, role_parity, by_role}
use Rattle.shelf.proofs.lent.LeavesLaws.{reads_here}
use Rattle.shelf.proofs.agreement.ListedLaws.{opt_cases, never_some, unlisted, none_listed}
use Rattle.shelf.proofs.numbers.InputLaws.{sized}
use Rattle.shelf.proofs.agreement.RowParity.{block_parity_ext, other_first, other_none, other_one, other_few, rest-there}
use Rattle.shelf.proofs.agreement.ReadLaws.{missing-some, missing-none, missing-parity, missing-failed, few-missing}
use Rattle.shelf.proofs.hashlist.ListMarks.{listed_found}
use Rattle.shelf.proofs.hashlist.ListMeaning.{said_whole}
use Rattle.shelf.proofs.calls.MadeLaws.{HoldsArray, Rowed, elsewhere, in_row, in_parity, made_reads}
use Rattle.shelf.proofs.calls.ServedLaws.{record_some}
use Rattle.shelf.proofs.calls.GivenLaws.{given_sound, given_length, worked}

-- ---- as the code fills it

ready_with : (r : Shelf) (a a' n l : List ℕ) → Ready (lent r a n l) → length a' ≡ length a → Ready (lent r a' n l)
ready_with r a a' n l R e = record { listing = R.listing; array = e ∙ R.array; log = R.log }

-- a block that is put where it stands
pub filled_by : (r : Shelf) (a n l : List ℕ) (x i k : ℕ) (v o : List ℕ) → k ≡ place_at r.geometry x i → o ≡ put r.geometry.b k v a
    → v ≡ served_block (lent r a n l) x i → o ≡ filled_at (lent r a n l) x i
unfolding filled_at
filled_by r a n l x i k v o ek eo ev = eo ∙ ap₂ (λ (m : ℕ) (w : List ℕ). put r.geometry.b m w a) ek ev

-- the block of a sound disk stays
pub filled_sound : (r : Shelf) (a n l : List ℕ) → Ready (lent r a n l) → (x i : ℕ) → x < r.geometry.s → i < r.geometry.d
    → flag_at r (member_at r.geometry x i) ≡ false → a ≡ filled_at (lent r a n l) x i
filled_sound r a n l R x i hx hi t =
    filled_by r a n l x i (place_at r.geometry x i) (block r.geometry.b (place_at r.geometry x i) a) a refl
    (sym (put-block r.geometry.b (place_at r.geometry x i) a
    (fits (place_at r.geometry x i) ((r.geometry.d + r.geometry.parities) * r.geometry.s) r.geometry.b a R.array
    (place_lt r.geometry.layout r.geometry.d r.geometry.parities r.geometry.s x i hx (omega arith)))))
    (given_sound r a n l R x hx i t)

pub filled_start : (h : Lent) (x : ℕ) → h.array ≡ filled_to h x 0
unfolding filled_to
filled_start h x = refl

pub filled_more : (h : Lent) (x i : ℕ) (a o : List ℕ) → a ≡ filled_to h x i → o ≡ filled_at (with_array h a) x i → o ≡ filled_to h x (i + 1)
unfolding filled_to
filled_more h x i a o ea eo =
    let q : suc i ≡ i + 1 = omega arith in
    eo ∙ ap (λ (z : List ℕ). filled_at (with_array h z) x i) ea ∙ ap (filled_to h x) q

pub stripe-sound : (h : Lent) (x : ℕ) (a : List ℕ) → parity_failed_at h.shelf x ≡ false → a ≡ filled_to h x h.shelf.geometry.d → a ≡ stripe_rebuilt h x
unfolding stripe_rebuilt
stripe-sound h x a t e = e ∙ sym (choose_false (parity_failed_at h.shelf x) _ (filled_to h x h.shelf.geometry.d) t)

pub stripe-parity : (h : Lent) (x : ℕ) (a o : List ℕ) → parity_failed_at h.shelf x ≡ true → a ≡ filled_to h x h.shelf.geometry.d
    → o ≡ parity_made (place_at h.shelf.geometry x) h.shelf.geometry.d h.shelf.geometry.parities h.shelf.geometry.b a → o ≡ stripe_rebuilt h x
unfolding stripe_rebuilt
stripe-parity h x a o t e eo =
    eo ∙ ap (λ (z : List ℕ). parity_made (place_at h.shelf.geometry x) h.shelf.geometry.d h.shelf.geometry.parities h.shelf.geometry.b z) e
    ∙ sym (choose_true (parity_failed_at h.shelf x) _ (filled_to h x h.shelf.geometry.d) t)

pub rebuilt_start : (h : Lent) → h.array ≡ rebuilt_to h 0
unfolding rebuilt_to
rebuilt_start h = refl

pub rebuilt_more : (h : Lent) (x : ℕ) (a o : List ℕ) → a ≡ rebuilt_to h x → o ≡ stripe_rebuilt (with_array h a) x → o ≡ rebuilt_to h (x + 1)
unfolding rebuilt_to
rebuilt_more h x a o ea eo =
    let q : suc x ≡ x + 1 = omega arith in
    eo ∙ ap (λ (z : List ℕ). stripe_rebuilt (with_array h z) x) ea ∙ ap (rebuilt_to h) q

-- ---- the block that a fetch gives does not hang on failed members' blocks

-- a state with other blocks
abbrev pub with_blocks : State → (ℕ → ℕ → List ℕ) → (ℕ → ℕ → List ℕ) → State
with_blocks s disk parity = record { disk = disk; parity = parity; log = s.log; mode = s.mode; failed = s.failed }

-- a record of the log is the same whatever stands behind it
one_of : (f : ℕ → List ℕ) (w v : List ℕ) (c o : Option ℕ) → (c ≡ none → o ≡ none → w ≡ v) → or_else c f (or_else o f w) ≡ or_else c f (or_else o f v)
one_of f w v none none h = h refl refl
one_of f w v none (some r) h = refl
one_of f w v (some r) o h = refl

-- the other missing role, where there is one
other_is_missing : (g : Geometry) (m : ℕ → Bool) (i : ℕ) → other_missing g m i ≢ i → m (other_missing g m i) ≡ true
other_is_missing g m i ne =
    let f : ℕ → Bool = λ k. m k && not (eqb k i) in
    cases (any (array_members g) f)
    (λ t.
    let k = first_found (array_members g) f t in
    elim (dec_lt 1 g.parities) [
      | yes two ↦ ap m (other_first g m i two k.0) ∙ and_left (m (first (array_members g) f)) (not (eqb (first (array_members g) f) i)) k.1
      | no one ↦ absurd (ne (other_one g m i (omega arith)))
    ])
    (λ t. absurd (ne (other_none g m i (omega (arith, first_none (array_members g) f t)))))

-- block i of stripe x is on a failed disk and not in the log
module _ (g : Geometry) (s : State) (x : ℕ) (size : Sized g) (two : count (g.d + g.parities) s.failed ≤ g.parities)
    (whole : (i j : ℕ) → i < g.d → j < g.d → s.log.ori x i ≡ none → listed s.log x i ≡ true → listed s.log x j ≡ true)
    (i : ℕ) (hi : i < g.d) (lost : s.failed (member_at g x i) ≡ true) (no_ori : s.log.ori x i ≡ none) (no_cur : s.log.cur x i ≡ none) where
  have : (j : ℕ) → j < g.d → s.log.ori x j ≡ none → listed s.log x j ≡ false
  have j hj o = cases (listed s.log x j) (λ u. clash (whole j i hj hi o u) (none_listed s.log x i no_ori no_cur)) (λ u. u)

  gone : missing g s x i ≡ true
  gone = missing-none g s x have i hi no_ori ∙ lost

  rest : (k : ℕ) → k < g.d + g.parities → k ≢ i → k ≢ other_missing g (missing g s x) i → missing g s x k ≡ false
  rest k hk ni ny = rest-there g (missing g s x) i size.1.0 (few-missing g s x have size.1.1 two) hi gone k hk ni ny

  -- the other missing block, y, is data below i, and stands filled in its place: P alone gives block i
  module _ (hd : g.d ≤ 16) (y : ℕ) (is : y ≡ other_missing g (missing g s x) i) (low : y < i)
      (filled : s.failed (member_at g x y) ≡ true → s.disk x y ≡ block_at g s x y)
      (y-byte : (j : ℕ) → j < g.b → get_or (s.disk x y) j 0 < 256) (p-byte : (j : ℕ) → j < g.b → get_or (s.parity x 0) j 0 < 256) where
    y_gone : missing g s x y ≡ true
    y_gone = ap (missing g s x) is ∙ other_is_missing g (missing g s x) i (λ e. omega (arith, is, e))

    y_failed : s.failed (member_at g x y) ≡ true
    y_failed = missing-failed g s x have y y_gone

    y_ori : s.log.ori x y ≡ none
    y_ori = opt_cases (s.log.ori x y) (λ o. o) (λ r o. clash y_gone (missing-some g s x have y r (omega arith) o))

    y_cur : s.log.cur x y ≡ none
    y_cur = (unlisted s.log x y (have y (omega arith) y_ori)).1

    -- seen from y, the other one is i
    back : other_missing g (missing g s x) y ≡ i
    back = elim (ℕ_discrete i (other_missing g (missing g s x) y)) [
      | yes e ↦ sym e
      | no ne ↦ clash gone (rest-there g (missing g s x) y size.1.0 (few-missing g s x have size.1.1 two) (omega arith) y_gone i (omega arith) (λ e. omega arith) ne)
    ]

    y_block : original g s x y ≡ worked_back g (missing g s x) (original g s x) y
    unfolding block_at
    y_block =
        choose_true (ltb y g.d) (or_else (s.log.ori x y) s.log.value (s.disk x y)) (s.parity x (y - g.d)) (lt-ltb y g.d (omega arith))
        ∙ ap (λ (z : Option ℕ). or_else z s.log.value (s.disk x y)) y_ori
        ∙ filled y_failed
        ∙ choose_true (s.failed (member_at g x y)) _ (s.disk x y) y_failed
        ∙ ap₂ (λ (c o : Option ℕ). or_else c s.log.value (or_else o s.log.value (worked_back g (missing g s x) (original g s x) y))) y_cur y_ori

    y_original : original g s x y ≡ s.disk x y
    y_original =
        choose_true (ltb y g.d) (or_else (s.log.ori x y) s.log.value (s.disk x y)) (s.parity x (y - g.d)) (lt-ltb y g.d (omega arith))
        ∙ ap (λ (z : Option ℕ). or_else z s.log.value (s.disk x y)) y_ori

    p_original : original g s x g.d ≡ s.parity x 0
    p_original =
        choose_false (ltb g.d g.d) (or_else (s.log.ori x g.d) s.log.value (s.disk x g.d)) (s.parity x (g.d - g.d)) (le-ltb g.d g.d (omega arith))
        ∙ ap (s.parity x) (let z : g.d - g.d ≡ 0 = omega arith in z)

    y_column : (j : ℕ) → j < g.b → column (original g s x) j y ≡ solved g.d y i (column (original g s x) j)
    unfolding worked_back
    y_column j hj =
        ap (λ (v : List ℕ). get_or v j 0) y_block
        ∙ get_or-gen g.b (λ k. solved g.d y (other_missing g (missing g s x) y) (column (original g s x) k)) j hj
        ∙ ap (λ (z : ℕ). solved g.d y z (column (original g s x) j)) back

    pub by_p_alone : (j : ℕ) → j < g.b → solved g.d i i (column (original g s x) j) ≡ solved g.d i y (column (original g s x) j)
    by_p_alone j hj =
        second_filled g.d y i (column (original g s x) j) hd (omega arith) hi (λ e. omega arith)
        (subst (λ (v : List ℕ). get_or v j 0 < 256) (sym p_original) (p-byte j hj))
        (subst (λ (v : List ℕ). get_or v j 0 < 256) (sym y_original) (y-byte j hj)) (y_column j hj)

-- s and t are the same but for blocks; in stripe x those of sound members are the same too
module _ (g : Geometry) (s : State) (disk parity : ℕ → ℕ → List ℕ) (x : ℕ) (size : Sized g) (two : count (g.d + g.parities) s.failed ≤ g.parities)
    (whole : (i j : ℕ) → i < g.d → j < g.d → s.log.ori x i ≡ none → listed s.log x i ≡ true → listed s.log x j ≡ true)
    (same-disk : (i : ℕ) → i < g.d → s.failed (member_at g x i) ≡ false → disk x i ≡ s.disk x i)
    (same-parity : (p : ℕ) → p < g.parities → s.failed (member_at g x (g.d + p)) ≡ false → parity x p ≡ s.parity x p) where
  abbrev t : State
  t = with_blocks s disk parity

  module _ (i : ℕ) (hi : i < g.d) (lost : s.failed (member_at g x i) ≡ true) (no_ori : s.log.ori x i ≡ none) (no_cur : s.log.cur x i ≡ none) where
    there : (j : ℕ) → j < g.d → s.log.ori x j ≡ none → listed s.log x j ≡ false
    there = have g s x size two whole i hi lost no_ori no_cur

    data_same : (k : ℕ) → k < g.d → missing g s x k ≡ false → original g t x k ≡ original g s x k
    data_same k hk m =
        choose_true (ltb k g.d) (or_else (s.log.ori x k) s.log.value (disk x k)) (parity x (k - g.d)) (lt-ltb k g.d hk)
        ∙ opt_cases (s.log.ori x k)
        (λ o. ap (λ (v : List ℕ). or_else (s.log.ori x k) s.log.value v) (same-disk k hk (sym (missing-none g s x there k hk o) ∙ m)))
        (λ r o. ap (λ (z : Option ℕ). or_else z s.log.value (disk x k)) o ∙ sym (ap (λ (z : Option ℕ). or_else z s.log.value (s.disk x k)) o))
        ∙ sym (choose_true (ltb k g.d) (or_else (s.log.ori x k) s.log.value (s.disk x k)) (s.parity x (k - g.d)) (lt-ltb k g.d hk))

    parity-same : (k : ℕ) → g.d ≤ k → parity x (k - g.d) ≡ s.parity x (k - g.d) → original g t x k ≡ original g s x k
    parity-same k hk e =
        choose_false (ltb k g.d) (or_else (s.log.ori x k) s.log.value (disk x k)) (parity x (k - g.d)) (le-ltb k g.d hk) ∙ e
        ∙ sym (choose_false (ltb k g.d) (or_else (s.log.ori x k) s.log.value (s.disk x k)) (s.parity x (k - g.d)) (le-ltb k g.d hk))

    same : (k : ℕ) → k < g.d + g.parities → missing g s x k ≡ false → original g t x k ≡ original g s x k
    same =
        by_role g (λ k. missing g s x k ≡ false → original g t x k ≡ original g s x k) data_same
        (λ p hp m. parity-same (g.d + p) (omega arith)
        (let z : g.d + p - g.d ≡ p = omega arith in
        ap (parity x) z ∙ same-parity p hp (sym (missing-parity g s x there (g.d + p) (omega arith)) ∙ m) ∙ ap (s.parity x) (sym z)))

    lost_alike : worked_back g (missing g t x) (original g t x) i ≡ worked_back g (missing g s x) (original g s x) i
    unfolding worked_back
    lost_alike =
        let y : ℕ = other_missing g (missing g s x) i in
        gen_ext g.b (λ j. solved g.d i y (column (original g t x) j)) (λ j. solved g.d i y (column (original g s x) j))
        (λ j _. solved_ignores g.d g.parities i y (column (original g t x) j) (column (original g s x) j) size.1.0 (other_few g (missing g s x) i) hi
        (λ k hk ni ny. ap (λ (v : List ℕ). get_or v j 0) (same k hk (rest g s x size two whole i hi lost no_ori no_cur k hk ni ny))))

  pub block_alike : (i : ℕ) → i < g.d → block_at g (with_blocks s disk parity) x i ≡ block_at g s x i
  unfolding block_at
  block_alike i hi =
      cases (s.failed (member_at g x i))
      (λ f.
      choose_true (s.failed (member_at g x i)) _ (disk x i) f
      ∙ one_of s.log.value (worked_back g (missing g t x) (original g t x) i) (worked_back g (missing g s x) (original g s x) i) (s.log.cur x i) (s.log.ori x i)
      (λ c o. lost_alike i hi f o c)
      ∙ sym (choose_true (s.failed (member_at g x i)) _ (s.disk x i) f))
      (λ f. choose_false (s.failed (member_at g x i)) _ (disk x i) f ∙ same-disk i hi f ∙ sym (choose_false (s.failed (member_at g x i)) _ (s.disk x i) f))

-- ---- the same of what is lent

-- a stripe with a listed block that lacks Ori is listed whole
whole_by : (r : Shelf) (l : List ℕ) → ListReady r l → (x i j : ℕ) → i < r.geometry.d → j < r.geometry.d → ori_by r.geometry l x i ≡ none
    → listed_by r.geometry l x i ≡ true → listed_by r.geometry l x j ≡ true
whole_by r l R x i j hi hj o e =
    let g = r.geometry in
    let Y = R.range in
    let found : lookup (words l) g (address_of g x i) < g.e =
    ltb-true (lookup (words l) g (address_of g x i)) g.e (sym (listed_found g l r.next r.listed Y R.valid x i) ∙ e) in
    let lacks : (said (words l) g (address_of g x i)).ori ≡ none_word =
    elim (ℕ_discrete (said (words l) g (address_of g x i)).ori none_word) [ yes z ↦ z | no z ↦ absurd (never_some (sym o ∙ record_some _ z)) ] in
    listed_found g l r.next r.listed Y R.valid x j
    ∙ lt-ltb (lookup (words l) g (address_of g x j)) g.e
    (said_whole (words l) g r.next r.listed (omega (arith, Y.h_least)) (omega (arith, Y.d_least)) Y.e_most R.valid x i hi found lacks j hj)

module _ (r : Shelf) (n l : List ℕ) (two : count (r.geometry.d + r.geometry.parities) (flag_at r) ≤ r.geometry.parities) (L : ListReady r l) where
  -- a and a' have the same blocks of sound members in stripe x
  pub given_alike : (a a' : List ℕ) (x : ℕ)
      → ((j : ℕ) → j < r.geometry.d + r.geometry.parities → flag_at r (member_at r.geometry x j) ≡ false → array_block r.geometry a' x j ≡ array_block r.geometry a x j)
      → (i : ℕ) → i < r.geometry.d → served_block (lent r a' n l) x i ≡ served_block (lent r a n l) x i
  unfolding state_of
  given_alike a a' x same i hi =
      let g = r.geometry in
      block_alike g (state_of (lent r a n l)) (λ y k. array_block g a' y k) (λ y p. array_block g a' y (g.d + p)) x (sized L.range) two
      (λ k j hk hj o e. whole_by r l L x k j hk hj o e) (λ k hk f. same k (omega arith) f) (λ p hp f. same (g.d + p) (omega arith) f) i hi

-- a block without a record
no_records : (r : Shelf) (l : List ℕ) (x i : ℕ) → latest_by r.geometry l x i ≡ none
    → (ori_by r.geometry l x i ≡ none) × (cur_by r.geometry l x i ≡ none)
no_records r l x i e = both (cur_by r.geometry l x i) (ori_by r.geometry l x i) e
  where
    both : (c o : Option ℕ) → option_or c o ≡ none → (o ≡ none) × (c ≡ none)
    both none o e = (e, refl)
    both (some k) o e = absurd (never_some (sym e))

-- the role that is still missing is one of few
pub still_few : (r : Shelf) (l : List ℕ) (x i y z : ℕ) → y ≡ other_missing r.geometry (missing_by r l x) i → z ≡ max y i → Recoverable r.geometry.parities i z
still_few r l x i y z e ez =
    elim (dec_lt y i) [
      | yes low ↦ inl (omega arith)
      | no high ↦ let is : z ≡ y = omega arith in
          subst (Recoverable r.geometry.parities i) (sym (is ∙ e)) (other_few r.geometry (missing_by r l x) i)
    ]

-- the block worked back from those that are still missing
module _ (r : Shelf) (a n l : List ℕ) (R : Rebuildable (lent r a n l)) (x : ℕ) (hx : x < r.geometry.s) (i : ℕ) (hi : i < r.geometry.d)
    (fill : FilledBelow (lent r a n l) x i) (lost : Lost r l x i) (bytes : (k : ℕ) → get_or a k 0 < 256) where
  block_byte : (k j : ℕ) → j < r.geometry.b → get_or (array_block r.geometry a x k) j 0 < 256
  block_byte k j hj =
      subst (λ (v : ℕ). v < 256) (sym (get_or-block r.geometry.b (place_at r.geometry x k) a j hj))
      (bytes (place_at r.geometry x k * r.geometry.b + j))

  alone : (y : ℕ) → y ≡ other_missing r.geometry (missing_by r l x) i → y < i → (j : ℕ) → j < r.geometry.b
      → solved r.geometry.d i i (column (original r.geometry (state_of (lent r a n l)) x) j)
      ≡ solved r.geometry.d i y (column (original r.geometry (state_of (lent r a n l)) x) j)
  unfolding state_of
  alone y e low j hj =
      let g = r.geometry in
      let none = no_records r l x i lost.1 in
      by_p_alone g (state_of (lent r a n l)) x (sized R.ready.listing.range) R.few (λ k m hk hm o t. whole_by r l R.ready.listing x k m hk hm o t) i hi lost.0 none.0 none.1
      R.ready.listing.range.d_most y e low (λ f. fill y low f) (λ k hk. block_byte y k hk) (λ k hk. block_byte (g.d + 0) k hk) j hj

  pub refilled : (y z : ℕ) (work : List ℕ) → y ≡ other_missing r.geometry (missing_by r l x) i → z ≡ max y i
      → work ≡ solved_block (lent r a n l) x i z → work ≡ lost_block (lent r a n l) x i
  unfolding solved_block
  refilled y z work e ez is =
      let g = r.geometry in
      elim (dec_lt y i) [
        | yes low ↦ let z-is : z ≡ i = omega arith in
            is ∙ gen_ext g.b (λ j. solved g.d i z (column (original g (state_of (lent r a n l)) x) j))
            (λ j. solved g.d i y (column (original g (state_of (lent r a n l)) x) j))
            (λ j hj. ap (λ (k : ℕ). solved g.d i k (column (original g (state_of (lent r a n l)) x) j)) z-is ∙ alone y e low j hj)
            ∙ worked r a n l R.ready x hx i y (solved_block (lent r a n l) x i y) e refl
        | no high ↦ let z-is : z ≡ y = omega arith in worked r a n l R.ready x hx i z work (z-is ∙ e) is
      ]

-- ---- one stripe

-- the array a is a₀ but for the first c data blocks of stripe x, which are those of row
pub record StripeFilled (g : Geometry) (row : ℕ → List ℕ) (a₀ : List ℕ) (x c : ℕ) (a : List ℕ) : Type 0 where
  pub long : length a ≡ length a₀
  pub here : (i : ℕ) → i < c → array_block g a x i ≡ row i
  pub rest : (y i : ℕ) → y < g.s → i < g.d + g.parities → (y ≢ x) ⊎ (c ≤ i) → array_block g a y i ≡ array_block g a₀ y i

-- stripe x of a is rebuilt from a₀: its data blocks are those of row, and where parity was lost, the parities are theirs
pub record StripeMade (g : Geometry) (parity : Bool) (row : ℕ → List ℕ) (a₀ : List ℕ) (x : ℕ) (a : List ℕ) : Type 0 where
  pub long : length a ≡ length a₀
  pub here : (i : ℕ) → i < g.d → array_block g a x i ≡ row i
  pub sound : parity ≡ false → (i : ℕ) → g.d ≤ i → i < g.d + g.parities → array_block g a x i ≡ array_block g a₀ x i
  pub made : parity ≡ true → (p : ℕ) → p < g.parities → array_block g a x (g.d + p) ≡ block_parity g p row
  pub others : (y i : ℕ) → y < g.s → i < g.d + g.parities → y ≢ x → array_block g a y i ≡ array_block g a₀ y i

-- blocks of different places
apart : (layout d k S y x i c : ℕ) → y < S → x < S → i < d + k → c < d + k → (y ≢ x) ⊎ (i ≢ c) → place layout d k S y i ≢ place layout d k S x c
apart layout d k S y x i c hy hx hi hc w e =
    elim (ℕ_discrete y x) [
      | yes q ↦ ⊎_elim (λ ne. ne q) (λ ne. ne (place_inj layout d k S x i c hx hi hc (ap (λ (z : ℕ). place layout d k S z i) (sym q) ∙ e))) w
      | no ne ↦ place_other layout d k S y x i c hy hx ne e
    ]

module _ (r : Shelf) (n l : List ℕ) (two : count (r.geometry.d + r.geometry.parities) (flag_at r) ≤ r.geometry.parities) (a : List ℕ) (R : Ready (lent r a n l)) (x : ℕ) (hx : x < r.geometry.s) where
  abbrev g : Geometry
  g = r.geometry

  abbrev row : ℕ → List ℕ
  row = served_block (lent r a n l) x

  -- one more block
  one_more : (c : ℕ) (b : List ℕ) → c < g.d → StripeFilled g row a x c b → StripeFilled g row a x (suc c) (filled_at (lent r b n l) x c)
  unfolding filled_at
  one_more c b hc F =
      let v : List ℕ = served_block (lent r b n l) x c in
      let R' = ready_with r a b n l R F.long in
      let is : served_block (lent r b n l) x c ≡ row c =
      given_alike r n l two R.listing a b x
      (λ j hj f. elim (dec_lt j c) [
        | yes p ↦ F.here j p ∙ sym (given_sound r a n l R x hx j f)
        | no p ↦ F.rest x j hx hj (inr (omega arith))
      ]) c hc in
      let size : length (served_block (lent r b n l) x c) ≡ g.b = given_length r b n l R' x hx c hc in
      let room : (y i : ℕ) → y < g.s → i < g.d + g.parities → place_at g y i * g.b + g.b ≤ length b =
      λ y i hy hi. fits (place_at g y i) ((g.d + g.parities) * g.s) g.b b (F.long ∙ R.array) (place_lt g.layout g.d g.parities g.s y i hy hi) in
      let stays : (y i : ℕ) → y < g.s → i < g.d + g.parities → (y ≢ x) ⊎ (i ≢ c)
      → array_block g (put g.b (place_at g x c) v b) y i ≡ array_block g b y i =
      λ y i hy hi w. block-put_other g.b (place_at g x c) (place_at g y i) b v (room x c hx (omega arith)) (room y i hy hi) size
      (apart g.layout g.d g.parities g.s y x i c hy hx hi (omega arith) w) in
      record {
        long = length-put g.b (place_at g x c) b (room x c hx (omega arith)) v size ∙ F.long;
        here = λ i h. elim (ℕ_discrete i c) [
          | yes z ↦ ap (λ (k : ℕ). array_block g (put g.b (place_at g x c) v b) x k) z
              ∙ block-put-same g.b (place_at g x c) b v (room x c hx (omega arith)) size ∙ is ∙ ap row (sym z)
          | no z ↦ stays x i hx (omega arith) (inr z) ∙ F.here i (omega arith)
        ];
        rest = λ y i hy hi w.
            stays y i hy hi (⊎_elim (λ ne. inl ne) (λ le. inr (λ z. omega arith)) w) ∙ F.rest y i hy hi (⊎_elim (λ ne. inl ne) (λ le. inr (omega arith)) w);
      }

  filled_is : (c : ℕ) → c ≤ g.d → StripeFilled g row a x c (filled_to (lent r a n l) x c)
  unfolding filled_to
  filled_is zero h = record { long = refl; here = λ i p. absurd (omega arith); rest = λ y i hy hi w. refl }
  filled_is (suc c) h = one_more c (filled_to (lent r a n l) x c) (omega arith) (filled_is c (omega arith))

  -- what is filled is what a fetch gives of the array so far, too
  filled_below : (c : ℕ) → c ≤ g.d → FilledBelow (lent r (filled_to (lent r a n l) x c) n l) x c
  filled_below c h k low f =
      let F = filled_is c h in
      F.here k low
      ∙ sym (given_alike r n l two R.listing a (filled_to (lent r a n l) x c) x
      (λ j hj s. elim (dec_lt j c) [
        | yes p ↦ F.here j p ∙ sym (given_sound r a n l R x hx j s)
        | no p ↦ F.rest x j hx hj (inr (omega arith))
      ]) k (omega arith))

  either_is : (parity : Bool)
      → StripeMade g parity row a x (choose parity (parity_made (place_at g x) g.d g.parities g.b (filled_to (lent r a n l) x g.d)) (filled_to (lent r a n l) x g.d))
  unfolding choose
  either_is false =
      let F = filled_is g.d (omega arith) in
      record {
        long = F.long;
        here = F.here;
        sound = λ _ i low hi. F.rest x i hx hi (inr low);
        made = λ e. clash e refl;
        others = λ y i hy hi ne. F.rest y i hy hi (inl ne);
      }
  either_is true =
      let F = filled_is g.d (omega arith) in
      let b : List ℕ = filled_to (lent r a n l) x g.d in
      let W = rows b F in
      let st = state_of (lent r b n l) in
      record {
        long = (made_reads g st x row b hx W).long ∙ sym R.array;
        here = λ i hi. in_row g st x row b hx W i hi;
        sound = λ e. clash refl e;
        made = λ _ p hp. in_parity g st x row b hx W p hp;
        others = λ y i hy hi ne. elsewhere g st x row b hx W y i hy hi ne ∙ F.rest y i hy hi (inl ne);
      }
    where
      rows : (b : List ℕ) → StripeFilled g row a x g.d b → Rowed g (state_of (lent r b n l)) x row b
      rows b F =
          unfold state_of in record { long = F.long ∙ R.array; here = F.here; disk = λ y i hy ne hi. refl; parity = λ y p hy hp ne. refl }

  stripe-is : StripeMade g (parity_failed_at r x) row a x (stripe_rebuilt (lent r a n l) x)
  unfolding stripe_rebuilt
  stripe-is = either_is (parity_failed_at r x)

pub below_so_far : (r : Shelf) (a n l : List ℕ) → Rebuildable (lent r a n l) → (x : ℕ) → x < r.geometry.s → (i : ℕ) → i ≤ r.geometry.d → (b : List ℕ)
    → b ≡ filled_to (lent r a n l) x i → FilledBelow (lent r b n l) x i
below_so_far r a n l R x hx i h b e =
    subst (λ (z : List ℕ). FilledBelow (lent r z n l) x i) (sym e) (filled_below r n l R.few a R.ready x hx i h)

-- ---- all stripes

-- the first k stripes of a are those of the state t, the others those of s
pub record RebuiltUpTo (g : Geometry) (s t : State) (k : ℕ) (a : List ℕ) : Type 0 where
  pub long : length a ≡ array_length g
  pub done : (y i : ℕ) → y < k → y < g.s → i < g.d + g.parities → array_block g a y i ≡ role_block g t y i
  pub left : (y i : ℕ) → k ≤ y → y < g.s → i < g.d + g.parities → array_block g a y i ≡ role_block g s y i

module _ (r : Shelf) (a n l : List ℕ) (two : count (r.geometry.d + r.geometry.parities) (flag_at r) ≤ r.geometry.parities) (R : Ready (lent r a n l)) where
  abbrev s : State
  s = state_of (lent r a n l)

  -- the state rebuilt
  abbrev after : State
  after = rebuilt r.geometry (state_of (lent r a n l))

  -- stripe k, from an array whose first k stripes are rebuilt
  module _ (k : ℕ) (hk : k < r.geometry.s) (b : List ℕ) (U : RebuiltUpTo r.geometry s after k b) where
    abbrev o : List ℕ
    o = stripe_rebuilt (lent r b n l) k

    given_here : (i : ℕ) → i < r.geometry.d → served_block (lent r b n l) k i ≡ served_block (lent r a n l) k i
    given_here i hi = given_alike r n l two R.listing a b k (λ j hj _. U.left k j (omega arith) hk hj ∙ reads_here r a n l k j hj) i hi

    made-here : StripeMade r.geometry (parity_failed_at r k) (served_block (lent r b n l) k) b k (stripe_rebuilt (lent r b n l) k)
    made-here = stripe-is r n l two b (ready_with r a b n l R (U.long ∙ sym R.array)) k hk

    here-parity : (p : ℕ) → p < r.geometry.parities → array_block r.geometry o k (r.geometry.d + p) ≡ after.parity k p
    unfolding rebuilt settled state_of choose
    here-parity p hp =
        cases (parity_failed_at r k)
        (λ e. simp e (made-here.made e p hp ∙ block_parity_ext r.geometry p (served_block (lent r b n l) k) (served_block (lent r a n l) k) given_here))
        (λ e. simp e (made-here.sound e (r.geometry.d + p) (omega arith) (omega arith) ∙ U.left k (r.geometry.d + p) (omega arith) hk (omega arith) ∙ role_parity r.geometry s k p))

    here : (i : ℕ) → i < r.geometry.d + r.geometry.parities → array_block r.geometry o k i ≡ role_block r.geometry after k i
    unfolding rebuilt settled
    here =
        by_role r.geometry (λ i. array_block r.geometry o k i ≡ role_block r.geometry after k i)
        (λ i hi. made-here.here i hi ∙ given_here i hi ∙ sym (role_data r.geometry after k i hi))
        (λ p hp. here-parity p hp ∙ sym (role_parity r.geometry after k p))

    next-stripe : RebuiltUpTo r.geometry s after (suc k) (stripe_rebuilt (lent r b n l) k)
    next-stripe =
        record {
          long = made-here.long ∙ U.long;
          done = λ y i hy hs hi. elim (ℕ_discrete y k) [
            | yes z ↦ ap (λ (w : ℕ). array_block r.geometry o w i) z ∙ here i hi ∙ ap (λ (w : ℕ). role_block r.geometry after w i) (sym z)
            | no z ↦ made-here.others y i hs hi z ∙ U.done y i (omega arith) hs hi
          ];
          left = λ y i hy hs hi. made-here.others y i hs hi (λ z. omega arith) ∙ U.left y i (omega arith) hs hi;
        }

  rebuilt_is : (k : ℕ) → k ≤ r.geometry.s → RebuiltUpTo r.geometry s after k (rebuilt_to (lent r a n l) k)
  unfolding rebuilt_to
  rebuilt_is zero h = record { long = R.array; done = λ y i hy hs hi. absurd (omega arith); left = λ y i hy hs hi. sym (reads_here r a n l y i hi) }
  rebuilt_is (suc k) h = next-stripe k (omega arith) (rebuilt_to (lent r a n l) k) (rebuilt_is k (omega arith))

  pub rebuilt_reads : HoldsArray r.geometry after (rebuilt_to (lent r a n l) r.geometry.s)
  rebuilt_reads =
      let U = rebuilt_is r.geometry.s (omega arith) in
      record { long = U.long; blocks = λ x i hx hi. sym (U.done x i hx hx hi) }
