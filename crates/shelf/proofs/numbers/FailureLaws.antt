-- The record after an accepted report: it passes row 1, a put-back of the member takes the report back, and another report in between stays.
-- Assumes nothing.
use mathlib.Core.Bool.{Bool, true, false, ◌&&◌}
use mathlib.Core.Logic.{◌≢◌}
use mathlib.Core.Path.{◌≡◌, refl, sym, ap, ap₂, ◌∙◌}
use Prim.Native.Nat.{ℕ, ◌+◌, ◌-◌, ◌≤◌, ◌<◌}
use native.Mathlib.Decide.{dec_lt, ℕ_discrete}
use native.Mathlib.Omega.{arith}
use lib.Dec.{eqb, ltb, leb}
use lib.ListN.{length, get_or, set, length-set, get_or-eq_default}
use lib.Seq.{ext_get_or, get_or-set_same, get_or-set_other}
use borrow.Author.Tests.{eq-eqb, eqb-true, eqb-false, le-leb, le-ltb, leb-true, ne_eqb}
use Rattle.shelf.specs.Counting.{choose, count, any}
use Rattle.shelf.specs.Members.{InRange, array_members, log_member, all_members}
use Rattle.shelf.specs.Lent.{flag_from, flag_at, bad_record}
use Rattle.shelf.specs.below.Records.{Sized, mode_then, with_failed, with_renewed}
use Rattle.shelf.specs.declared.record.Shelf.{Shelf}
use Rattle.shelf.proofs.general.CountLaws.{bit_most, any_none, none_any, count_at, count_top}
use Rattle.shelf.proofs.general.TestLaws.{cases, clash, and_fine, choose_true, choose_false}
use Rattle.shelf.proofs.numbers.RecordLaws.{mode_member}
use Rattle.shelf.proofs.numbers.InputLaws.{sized, Fine, fine_record, record_fine}

-- no flag above the log's is set
pub none_above : (r : Shelf) → bad_record r ≡ false → length r.failed ≡ 19 → (i : ℕ) → all_members r.geometry ≤ i → flag_at r i ≡ false
none_above r fine long i o =
    elim (dec_lt i 19) [
      | yes l ↦
          sym (ap (λ (t : Bool). t && flag_at r i) (le-leb (all_members r.geometry) i o))
          ∙ any_none 19 (flag_from r.failed (all_members r.geometry)) (fine_record r fine).above i l
      | no l ↦ get_or-eq_default r.failed false (omega (arith, long))
    ]

-- and then none is found there, and none counts
module _ (r : Shelf) (top : (i : ℕ) → all_members r.geometry ≤ i → flag_at r i ≡ false) where
  pub above-fine : any 19 (flag_from r.failed (all_members r.geometry)) ≡ false
  above-fine =
      none_any 19 (flag_from r.failed (all_members r.geometry))
      (λ i _. and_fine (leb (all_members r.geometry) i) (flag_at r i) (λ t. top i (leb-true (all_members r.geometry) i t)))

  pub flags-count : Sized r.geometry → count 19 (flag_at r) ≡ count (all_members r.geometry) (flag_at r)
  flags-count small =
      let n = all_members r.geometry in
      (let q : 19 ≡ n + (19 - n) = omega (arith, small.0, small.1.1) in ap (λ (k : ℕ). count k (flag_at r)) q) ∙ count_top n (19 - n) (flag_at r) top

-- ---- row 1

module _ (r : Shelf) (Y : InRange r.geometry) (fine : bad_record r ≡ false) (long : length r.failed ≡ 19) (j : ℕ) (member : j ≤ log_member r.geometry)
    (limit : count (all_members r.geometry) (flag_at r) < r.geometry.parities) where
  F : Fine r
  F = fine_record r fine

  -- the flags of other members stay
  other : (i : ℕ) → i ≢ j → flag_at (with_failed r j) i ≡ flag_at r i
  other i n = get_or-set_other r.failed j i true false n

  -- there are no more than the parities
  few : count 19 (flag_at (with_failed r j)) ≤ r.geometry.parities
  few =
      let same = flags-count r (none_above r fine long) (sized Y) in
      let e = count_at 19 (flag_at (with_failed r j)) (flag_at r) j (omega (arith, member, Y.d_most, Y.parities_most)) (λ i _ q. other i q) in
      omega (arith, e, same, limit, bit_most (flag_at (with_failed r j) j))

  -- whether the log fails in mode 1; if so the mode is 2 or 0
  abbrev ends : Bool
  ends = eqb j (log_member r.geometry) && eqb r.mode 1

  stays : ends ≡ false → mode_then r j ≡ r.mode
  stays e = choose_false ends (choose (eqb r.listed 0) 0 2) r.mode e

  over : ends ≡ true → (P : ℕ → Type 0) → (r.listed ≡ 0 → P 0) → (r.listed ≢ 0 → P 2) → P (mode_then r j)
  over e P zero some =
      cases (eqb r.listed 0)
      (λ z. rw (choose_true ends (choose (eqb r.listed 0) 0 2) r.mode e, choose_true {A = ℕ} (eqb r.listed 0) 0 2 z) (zero (eqb-true r.listed 0 z)))
      (λ z. rw (choose_true ends (choose (eqb r.listed 0) 0 2) r.mode e, choose_false {A = ℕ} (eqb r.listed 0) 0 2 z) (some (eqb-false r.listed 0 z)))

  -- the log has failed in no mode 1
  unaccelerated : ends ≡ false → (eqb r.mode 1 && flag_at (with_failed r j) (log_member r.geometry)) ≡ false
  unaccelerated e =
      elim (ℕ_discrete (log_member r.geometry) j) [
        | yes q ↦ and_fine (eqb r.mode 1) _ (λ t. clash (ap₂ ◌&&◌ (eq-eqb j (log_member r.geometry) (sym q)) t) e)
        | no q ↦ ap (λ (t : Bool). eqb r.mode 1 && t) (other (log_member r.geometry) q) ∙ F.accelerating
      ]

  pub reported_fine : bad_record (with_failed r j) ≡ false
  reported_fine =
      record_fine (with_failed r j) (record {
        modes = cases ends (λ e. over e (λ m. ltb 2 m ≡ false) (λ _. refl) (λ _. refl)) (λ e. ap (ltb 2) (stays e) ∙ F.modes);
        above = above-fine (with_failed r j) (λ i o. other i (λ q. omega (arith, o, q, member)) ∙ none_above r fine long i o);
        few = le-ltb r.geometry.parities (count 19 (flag_at (with_failed r j))) few;
        room = F.room;
        fits = F.fits;
        idle = F.idle;
        normal = cases ends
            (λ e. over e (λ m. (eqb m 0 && ltb 0 r.listed) ≡ false) (λ z. le-ltb 0 r.listed (omega (arith, z))) (λ _. refl))
            (λ e. ap (λ (m : ℕ). eqb m 0 && ltb 0 r.listed) (stays e) ∙ F.normal);
        transitional = cases ends
            (λ e. over e (λ m. (eqb m 2 && eqb r.listed 0) ≡ false) (λ _. refl) (λ z. ne_eqb r.listed 0 z))
            (λ e. ap (λ (m : ℕ). eqb m 2 && eqb r.listed 0) (stays e) ∙ F.transitional);
        accelerating = cases ends
            (λ e. over e (λ m. (eqb m 1 && flag_at (with_failed r j) (log_member r.geometry)) ≡ false) (λ _. refl) (λ _. refl))
            (λ e. ap (λ (m : ℕ). eqb m 1 && flag_at (with_failed r j) (log_member r.geometry)) (stays e) ∙ unaccelerated e);
      })

-- ---- put back

module _ (r : Shelf) (j : ℕ) (member : j < array_members r.geometry) (sound : flag_at r j ≡ false) (fits : j < length r.failed) where
  not-log : j ≢ log_member r.geometry
  not-log e = omega (arith, e, member)

  -- the flags as they were
  flags-back : set (set r.failed j true) j false ≡ r.failed
  flags-back =
      ext_get_or false (set (set r.failed j true) j false) r.failed (length-set (set r.failed j true) j false ∙ length-set r.failed j true)
      (λ i _. elim (ℕ_discrete i j) [
        | yes q ↦
            ap (λ (n : ℕ). get_or (set (set r.failed j true) j false) n false) q
            ∙ get_or-set_same (set r.failed j true) j false false (omega (arith, fits, length-set r.failed j true)) ∙ sym sound ∙ ap (flag_at r) (sym q)
        | no q ↦ get_or-set_other (set r.failed j true) j i false false q ∙ get_or-set_other r.failed j i true false q
      ])

  -- by the next call
  pub report_undone : with_renewed (with_failed r j) j ≡ r
  report_undone =
      λ i. record { geometry = r.geometry; mode = sym (mode_member r j not-log) i; next = r.next; listed = r.listed; failed = flags-back i }

  -- with member m reported in between
  module _ (m : ℕ) (other : m ≢ j) (here : m < length r.failed) where
    flags_but : set (set (set r.failed j true) m true) j false ≡ set r.failed m true
    flags_but =
        ext_get_or false (set (set (set r.failed j true) m true) j false) (set r.failed m true)
        (length-set (set (set r.failed j true) m true) j false ∙ length-set (set r.failed j true) m true ∙ length-set r.failed j true ∙ sym (length-set r.failed m true))
        (λ i l. elim (ℕ_discrete i j) [
          | yes q ↦
              ap (λ (n : ℕ). get_or (set (set (set r.failed j true) m true) j false) n false) q
              ∙ get_or-set_same (set (set r.failed j true) m true) j false false
              (omega (arith, fits, length-set (set r.failed j true) m true, length-set r.failed j true))
              ∙ sym (get_or-set_other r.failed m j true false (λ e. other (sym e)) ∙ sound) ∙ ap (λ (n : ℕ). get_or (set r.failed m true) n false) (sym q)
          | no q ↦ get_or-set_other (set (set r.failed j true) m true) j i false false q ∙ between i q
        ])
      where
        between : (i : ℕ) → i ≢ j → get_or (set (set r.failed j true) m true) i false ≡ get_or (set r.failed m true) i false
        between i q =
            elim (ℕ_discrete i m) [
              | yes e ↦
                  ap (λ (n : ℕ). get_or (set (set r.failed j true) m true) n false) e
                  ∙ get_or-set_same (set r.failed j true) m true false (omega (arith, here, length-set r.failed j true))
                  ∙ sym (get_or-set_same r.failed m true false here) ∙ ap (λ (n : ℕ). get_or (set r.failed m true) n false) (sym e)
              | no e ↦
                  get_or-set_other (set r.failed j true) m i true false e ∙ get_or-set_other r.failed j i true false q
                  ∙ sym (get_or-set_other r.failed m i true false e)
            ]

    pub report_left : with_renewed (with_failed (with_failed r j) m) j ≡ with_failed r m
    report_left =
        λ i. record {
          geometry = r.geometry;
          mode = ap (λ (n : ℕ). choose (eqb m (log_member r.geometry) && eqb n 1) (choose (eqb r.listed 0) 0 2) n) (sym (mode_member r j not-log)) i;
          next = r.next;
          listed = r.listed;
          failed = flags_but i;
        }
