-- Rebuild: its rows 12 and 14, its blocks, filled one after another and stripe after stripe, and what it leaves, which is what is promised.
-- Assumes nothing.
use mathlib.Core.Bool.{Bool, true, false, ◌&&◌}
use mathlib.Core.List.{List}
use mathlib.Core.Path.{◌≡◌, refl, sym, ap, ◌∙◌, subst}
use Prim.Native.Nat.{ℕ, ◌+◌, ◌≤◌, ◌<◌}
use native.Mathlib.Omega.{arith}
use lib.ListN.{length, get_or}
use Rattle.shelf.specs.Counting.{count}
use Rattle.shelf.specs.below.Records.{Sized}
use Rattle.shelf.specs.Members.{array_members, member_at}
use Rattle.shelf.specs.State.{State, listed, stale, marks_in}
use Rattle.shelf.specs.Status.{rebuild, withheld, data_withheld}
use Rattle.shelf.specs.Calls.{next_left, mode_left, settled, dropped, array_cleared, rebuilt, work}
use Rattle.shelf.specs.Words.{words}
use Rattle.shelf.specs.below.Lists.{Measures, Lists, stale_in}
use Rattle.shelf.specs.Lent.{Lent, lent, flag_at, flags_of, state_of, listed_by, tries_list, number_of, record_of, log_of, Leaves, Answered}
use Rattle.shelf.specs.below.Reading.{ListReady}
use Rattle.shelf.specs.below.Rewriting.{Rewritten}
use Rattle.shelf.specs.below.Rebuilding.{Rebuildable, parity_failed_at, data_failed_at, withheld_at, rebuilt_to, rebuilt_record, kept_entries}
use Rattle.shelf.specs.declared.record.Geometry.{Geometry}
use Rattle.shelf.specs.declared.record.Shelf.{Shelf}
use Rattle.shelf.proofs.general.TestLaws.{cases, clash, and_false, and_left, and_right, same_bool}
use Rattle.shelf.proofs.general.CountLaws.{any_some, any_found, none_any}
use Rattle.shelf.proofs.numbers.InputLaws.{sized, Passed, few-flags, inputs_pass, measures_of_lem}
use Rattle.shelf.proofs.hashlist.ListMarks.{marks_listed}
use Rattle.shelf.proofs.agreement.ListedLaws.{marks-none}
use Rattle.shelf.proofs.lent.LayoutLaws.{log_is}
use Rattle.shelf.proofs.lent.LeavesLaws.{list-here}
use Rattle.shelf.proofs.calls.MadeLaws.{HoldsList, leaves_by, dropped-marks, afresh_says}
use Rattle.shelf.proofs.calls.ServedLaws.{held_stale, list-ready}
use Rattle.shelf.proofs.calls.RefillLaws.{rebuilt_reads}

-- ---- row 14, as the code tries it

module _ (r : Shelf) (l : List ℕ) (R : ListReady r l) (x : ℕ) where
  -- no data block of the stripe is on a failed member
  sound_at : data_failed_at r x ≡ false → false ≡ withheld_at r l x
  sound_at e =
      sym (none_any r.geometry.d (λ i. withheld r.geometry (flag_at r) (listed_by r.geometry l) x i)
      (λ i h. ap (λ (u : Bool). flag_at r (r.geometry.d + r.geometry.parities) && (u && stale r.geometry (listed_by r.geometry l) x))
      (off i h) ∙ and_false (flag_at r (r.geometry.d + r.geometry.parities))))
    where
      off : (i : ℕ) → i < r.geometry.d → flag_at r (member_at r.geometry x i) ≡ false
      off i h = cases (flag_at r (member_at r.geometry x i)) (λ t. clash (any_some r.geometry.d (λ k. flag_at r (member_at r.geometry x k)) i h t) e) (λ t. t)

  -- one has: the stripe is withheld where it is stale
  stale_at : flag_at r (r.geometry.d + r.geometry.parities) ≡ true → data_failed_at r x ≡ true → (u : Bool) → u ≡ stale_in (words l) r.geometry x → u ≡ withheld_at r l x
  stale_at t e u q =
      let f = any_found r.geometry.d (λ k. flag_at r (member_at r.geometry x k)) e in
      same_bool u (withheld_at r l x)
      (λ z. any_some r.geometry.d (λ i. withheld r.geometry (flag_at r) (listed_by r.geometry l) x i) f.0 f.1
      (sym (held_stale r l R x f.0 (member_at r.geometry x f.0) refl t f.2 u q) ∙ z))
      (λ z.
      let k = any_found r.geometry.d (λ i. withheld r.geometry (flag_at r) (listed_by r.geometry l) x i) z in
      let both : (flag_at r (member_at r.geometry x k.0) && stale r.geometry (listed_by r.geometry l) x) ≡ true =
      and_right (flag_at r (r.geometry.d + r.geometry.parities)) (flag_at r (member_at r.geometry x k.0) && stale r.geometry (listed_by r.geometry l) x) k.2 in
      held_stale r l R x k.0 (member_at r.geometry x k.0) refl t
      (and_left (flag_at r (member_at r.geometry x k.0)) (stale r.geometry (listed_by r.geometry l) x) both) u q ∙ k.2)

  -- where the log has failed, the stripe is withheld if it is stale and has one
  pub withheld_both : flag_at r (r.geometry.d + r.geometry.parities) ≡ true → (u v : Bool) → u ≡ stale_in (words l) r.geometry x → v ≡ data_failed_at r x → (u && v) ≡ withheld_at r l x
  withheld_both t true v q e = cases v (λ z. z ∙ stale_at t (sym e ∙ z) true q) (λ z. z ∙ sound_at (sym e ∙ z))
  withheld_both t false v q e = cases (data_failed_at r x) (λ z. stale_at t z false q) (λ z. sound_at z)

module _ (r : Shelf) (l : List ℕ) (R : ListReady r l) where
  -- the log is sound
  pub none_by_log : flag_at r (r.geometry.d + r.geometry.parities) ≡ false → data_withheld r.geometry (flag_at r) (listed_by r.geometry l) ≡ false
  none_by_log t =
      none_any r.geometry.s (λ x. withheld_at r l x) (λ x _.
      none_any r.geometry.d (λ i. withheld r.geometry (flag_at r) (listed_by r.geometry l) x i) (λ i _.
      ap (λ (u : Bool). u && (flag_at r (member_at r.geometry x i) && stale r.geometry (listed_by r.geometry l) x)) t))

  -- nothing is listed
  pub none_by_list : r.listed ≡ 0 → data_withheld r.geometry (flag_at r) (listed_by r.geometry l) ≡ false
  none_by_list z =
      none_any r.geometry.s (λ x. withheld_at r l x) (λ x hx.
      none_any r.geometry.d (λ i. withheld r.geometry (flag_at r) (listed_by r.geometry l) x i) (λ i _.
      ap (λ (u : Bool). flag_at r (r.geometry.d + r.geometry.parities) && (flag_at r (member_at r.geometry x i) && u)) (fresh x hx)
      ∙ ap (λ (u : Bool). flag_at r (r.geometry.d + r.geometry.parities) && u) (and_false (flag_at r (member_at r.geometry x i))) ∙ and_false (flag_at r (r.geometry.d + r.geometry.parities))))
    where
      fresh : (x : ℕ) → x < r.geometry.s → stale r.geometry (listed_by r.geometry l) x ≡ false
      fresh x hx =
          none_any r.geometry.d (listed_by r.geometry l x)
          (λ i hi. marks-none r.geometry (listed_by r.geometry l) (marks_listed r.geometry l r.next r.listed R.range R.valid ∙ z) x i hx hi)

-- ---- the record after it

-- the count is the record's own
pub settled_by : (r o : Shelf) (n : ℕ) (l l' : List ℕ) → o ≡ rebuilt_record r n → Rewritten r.geometry (kept_entries r l) l' n
    → Rewritten r.geometry (kept_entries r l) l' o.listed × (o ≡ rebuilt_record r o.listed)
settled_by r o n l l' e W =
    let k : n ≡ o.listed = sym (ap (λ (v : Shelf). v.listed) e) in
    (subst (Rewritten r.geometry (kept_entries r l) l') k W, e ∙ ap (rebuilt_record r) k)

-- ---- the call

module _ (r : Shelf) (a n l : List ℕ) where
  abbrev g : Geometry
  g = r.geometry

  abbrev st : State
  st = state_of (lent r a n l)

  passed : 0 ≡ number_of r (length a) (length n) l rebuild → Passed r (length a) (length n) l
  unfolding number_of tries_list
  passed e = (inputs_pass r (length a) (length n) l _ (sym e)).0

  few-failed : Passed r (length a) (length n) l → count (array_members r.geometry) (flag_at r) ≤ r.geometry.parities
  few-failed P = few-flags r P.fine (array_members r.geometry) (omega (arith, P.range.d_most, P.range.parities_most))

  -- what the functions below ask
  pub rebuild_asks : 0 ≡ number_of r (length a) (length n) l rebuild → Rebuildable (lent r a n l)
  rebuild_asks e =
      let P = passed e in
      record { ready = record { listing = list-ready r (length a) (length n) l P; array = P.array; log = P.log }; few = few-failed P }

  pub settle_asks : 0 ≡ number_of r (length a) (length n) l rebuild
      → Sized r.geometry × (Measures r.geometry l × Lists (words l) r.geometry r.listed)
  settle_asks e =
      let P = passed e in (sized P.range, (measures_of_lem g l P.range P.list, record { next = r.next; passing = P.valid }))

  module _ (e : 0 ≡ number_of r (length a) (length n) l rebuild) (k : ℕ) (l' : List ℕ)
      (W : Rewritten r.geometry (kept_entries r l) l' k) (bytes : (i : ℕ) → get_or l' i 0 < 256) where
    before_says : HoldsList g st r.listed l
    unfolding state_of
    before_says = list-here r a n l (passed e) _ _

    after_marks : k ≡ marks_in g (listed (dropped st.log (parity_failed_at r)))
    after_marks = dropped-marks g st (parity_failed_at r) (passed e).range r.listed k l l' before_says W

    after_record : rebuilt_record r k ≡ record_of g (rebuilt g st)
    unfolding rebuilt settled state_of
    after_record = λ i.
        record {
          geometry = g;
          mode = mode_left (after_marks i) r.mode;
          next = next_left (after_marks i) r.next;
          listed = after_marks i;
          failed = flags_of (array_cleared g (flag_at r));
        }

    after_log : n ≡ log_of g (rebuilt g st)
    unfolding rebuilt settled state_of
    after_log = log_is g (rebuilt g st) n (passed e).log (λ i _. refl)

    after_list : HoldsList g (rebuilt g st) k l'
    unfolding rebuilt state_of
    after_list = afresh_says g st (parity_failed_at r) (passed e).range r.listed k l l' before_says W _ _

    after_leaves : Leaves g (rebuilt g st) (lent (rebuilt_record r k) (rebuilt_to (lent r a n l) g.s) n l')
    after_leaves =
        leaves_by g (rebuilt g st) (rebuilt_record r k) (rebuilt_to (lent r a n l) g.s) n l' (passed e).range after_record
        (rebuilt_reads r a n l (few-failed (passed e)) (rebuild_asks e).ready) after_log after_list bytes

    pub rebuild_answered : (r' : Shelf) (a' : List ℕ) → a' ≡ rebuilt_to (lent r a n l) r.geometry.s → r' ≡ rebuilt_record r k → Answered (lent r a n l) rebuild 0 (lent r' a' n l')
    unfolding work
    rebuild_answered r' a' ea er =
        record {
          number = e;
          done = λ _. subst (λ (h : Lent). Leaves g (rebuilt g st) h) (sym (λ i. record { shelf = er i; array = ea i; log = n; list = l' })) after_leaves;
          refused = λ z. absurd (z refl);
        }
