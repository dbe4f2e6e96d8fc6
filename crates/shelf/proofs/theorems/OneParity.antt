-- With one parity 14 never occurs, whatever is lent and whatever is called: a record that passes row 1 has then at most one failed member, so the log
-- and a data disk have never both failed. Format and the stripe calls have no row 14.
-- Assumes nothing.
use mathlib.Core.Bool.{Bool, false, ◌&&◌}
use mathlib.Core.List.{List}
use mathlib.Core.Logic.{◌≢◌}
use mathlib.Core.Path.{◌≡◌, sym, ap, ◌∙◌}
use Prim.Native.Nat.{ℕ, ◌+◌, ◌≤◌, ◌<◌}
use native.Mathlib.Nat.{mod-lt}
use native.Mathlib.Omega.{arith}
use lib.ListN.{length}
use Rattle.stripe.proofs.Laws.{one_to_one}
use Rattle.shelf.specs.Counting.{count}
use Rattle.shelf.specs.Members.{all_members, log_member, member_at}
use Rattle.shelf.specs.State.{stale}
use Rattle.shelf.specs.Status.{Call, log_failed, withheld, fetch_withheld, data_withheld, code_of}
use Rattle.shelf.specs.Lent.{Lent, Answered, flag_at, bad_measures, bad_record, input_rows, number_of, listed_by}
use Rattle.shelf.specs.declared.record.Geometry.{Geometry}
use Rattle.shelf.specs.declared.record.Shelf.{Shelf}
use Rattle.shelf.proofs.general.CountLaws.{none_any, no_two}
use Rattle.shelf.proofs.general.TestLaws.{cases, clash, and_false}
use Rattle.shelf.proofs.numbers.TableRows.{row_other, never_code}
use Rattle.shelf.proofs.numbers.InputLaws.{in_range_lem, few-flags}

-- ---- one failed member at most: no block is withheld

module _ (g : Geometry) (f : ℕ → Bool) (m : ℕ → ℕ → Bool) (pos : 0 < g.d) (one : g.parities ≡ 1) (few : count (all_members g) f ≤ 1) where
  none-withheld : (x i : ℕ) → i < g.d → withheld g f m x i ≡ false
  none-withheld x i hi =
      cases (log_failed g f)
      (λ l. cases (f (member_at g x i))
      (λ e. let low = (one_to_one g.layout g.d g.parities x).within i (omega arith) in
      absurd (no_two (all_members g) f few (log_member g) (member_at g x i) (omega arith) (omega arith) (λ z. omega arith) l e))
      (λ e. ap (λ (t : Bool). log_failed g f && (t && stale g m x)) e ∙ and_false (log_failed g f)))
      (λ l. ap (λ (t : Bool). t && (f (member_at g x i) && stale g m x)) l)

  none_fetched : (a n : ℕ) → fetch_withheld g f m a n ≡ false
  none_fetched a n = none_any n _ (λ j _. none-withheld _ _ (mod-lt (a + j) pos))

  none_rebuilt : data_withheld g f m ≡ false
  none_rebuilt = none_any g.s _ (λ x _. none_any g.d _ (λ i h. none-withheld x i h))

  never : (mode : ℕ) (c : Call) → code_of g f mode m c ≢ 14
  never mode = never_code g f mode m 14 (λ e. omega arith) (λ n _ u. u) (λ a n t. clash t (none_fetched a n)) (λ t. clash t none_rebuilt)

-- ---- of any call

pub never_14 : (r : Shelf) (na nl : ℕ) (l : List ℕ) (c : Call) → r.geometry.parities ≡ 1 → number_of r na nl l c ≢ 14
unfolding number_of input_rows
never_14 r na nl l c one =
    row_other 1 14 (bad_measures r.geometry) _ (λ _ e. omega arith)
    (λ fine. row_other 1 14 (bad_record r) _ (λ _ e. omega arith)
    (λ passed. row_other 2 14 _ _ (λ _ e. omega arith) (λ _. row_other 3 14 _ _ (λ _ e. omega arith)
    (λ _. never r.geometry (flag_at r) (listed_by r.geometry l) (pos fine) one (few fine passed) r.mode c))))
  where
    pos : bad_measures r.geometry ≡ false → 0 < r.geometry.d
    pos fine = let Y = in_range_lem r.geometry fine in omega (arith, Y.d_least)

    few : bad_measures r.geometry ≡ false → bad_record r ≡ false → count (all_members r.geometry) (flag_at r) ≤ 1
    few fine passed =
        let Y = in_range_lem r.geometry fine in
        omega (arith, one, few-flags r passed (all_members r.geometry) (omega (arith, Y.d_most, Y.parities_most)))

-- with one parity no promise of a call allows 14
pub never_withheld : (h h' : Lent) (c : Call) (code : ℕ) → Answered h c code h' → h.shelf.geometry.parities ≡ 1 → code ≢ 14
never_withheld h h' c code A one z =
    never_14 h.shelf (length h.array) (length h.log) h.list c one (sym A.number ∙ z)
