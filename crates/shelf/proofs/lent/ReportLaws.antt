-- What was reported of failed members, from call to call: an accepted report notes the member's blocks, no other call notes anything, and a member
-- that is put back has the blocks that were reported of it.
-- Assumes nothing.
use mathlib.Core.Bool.{Bool, true, false}
use mathlib.Core.List.{List}
use mathlib.Core.Path.{◌≡◌, refl, sym, ap, ◌∙◌, subst}
use Prim.Native.Nat.{ℕ, zero, suc, ◌<◌}
use native.Mathlib.Decide.{dec_lt, ℕ_discrete}
use native.Mathlib.Omega.{arith}
use lib.Dec.{eqb, ltb}
use lib.ListN.{length, get_or-eq_default}
use borrow.Author.Tests.{ne_eqb, lt-ltb}
use Rattle.stripe.specs.Places.{place}
use Rattle.shelf.specs.Counting.{choose, any, set_at}
use Rattle.shelf.specs.Members.{array_members, log_member}
use Rattle.shelf.specs.State.{State, listed, marks_in}
use Rattle.shelf.specs.Status.{Call, start, fail, put_back, write, read, fetch, resync, rebuild, new_log, full_resync, array_failed}
use Rattle.shelf.specs.Calls.{settled, made, remade, logs, overwritten, logged, write_stripe, written, given, write_to, resync_stripe, resynced, rebuilt, mode_without, work}
use Rattle.shelf.specs.Lent.{Lent, flag, flag_at, member_block, state_of, tries_list, number_of, flags_of, array_of, Answered}
use Rattle.shelf.specs.Sequence.{Reported, reported_after, Returned, Kept}
use Rattle.shelf.specs.declared.record.Geometry.{Geometry}
use Rattle.shelf.specs.declared.record.Shelf.{Shelf}
use Rattle.shelf.proofs.general.CountLaws.{any_none, set_at-here, set_at-same, set_at_other}
use Rattle.shelf.proofs.general.TestLaws.{clash, choose_true, choose_false}
use Rattle.shelf.proofs.numbers.CodeLaws.{put-back_bounds}
use Rattle.shelf.proofs.lent.LayoutLaws.{flags-length, flag-back}
use Rattle.shelf.proofs.lent.LeavesLaws.{turned, tried_passed, accepted_code, array-here}
use Rattle.shelf.proofs.agreement.StatusLaws.{write_passed, resync_passed, full_resync_passed}
use Rattle.shelf.proofs.agreement.CallLaws.{cleared}
use Rattle.shelf.proofs.agreement.Agreement.{AsReported}
use Rattle.shelf.proofs.agreement.Steps.{Noting}

module _ (h : Lent) (k : Reported) where
  abbrev g : Geometry
  g = h.shelf.geometry

  -- the member's blocks in the array, by their roles
  as_in_array : (j : ℕ) (k' : Reported) → ((x : ℕ) → x < g.s → member_block g h.array j x ≡ k' j x) → AsReported g (state_of h) j k'
  unfolding state_of place
  as_in_array j k' same =
      record {
        blocks = λ x i hx _ e. ap (λ (m : ℕ). member_block g h.array m x) e ∙ same x hx ∙ ap (λ (m : ℕ). k' m x) (sym e);
        parity = λ x p hx _ e. ap (λ (m : ℕ). member_block g h.array m x) e ∙ same x hx ∙ ap (λ (m : ℕ). k' m x) (sym e);
      }

  -- an accepted call
  pub noting : (c : Call) → Returned g h c 0 k → Noting g (state_of h) c k (reported_after g h c 0 k)
  unfolding reported_after choose
  noting start back = refl
  noting (fail j) back = (
    λ m n x. ap (λ (f : ℕ → List ℕ). f x) (set_at_other j (member_block g h.array j) k m n),
    as_in_array j (set_at j (member_block g h.array j) k) (λ x _. ap (λ (f : ℕ → List ℕ). f x) (sym (set_at-same j (member_block g h.array j) k))),
  )
  noting (put_back j) back = (refl, as_in_array j k (back refl))
  noting (write a n v) back = refl
  noting (read a n len) back = refl
  noting (fetch a n len) back = refl
  noting resync back = refl
  noting rebuild back = refl
  noting new_log back = refl
  noting full_resync back = refl

  -- a refused one
  pub unnoted : (c : Call) (n : ℕ) → (n ≡ 0 → ⊥) → reported_after g h c n k ≡ k
  unfolding reported_after
  unnoted start n z = refl
  unnoted (fail j) n z = choose_false (eqb n 0) (set_at j (member_block g h.array j) k) k (ne_eqb n 0 z)
  unnoted (put_back j) n z = refl
  unnoted (write a m v) n z = refl
  unnoted (read a m len) n z = refl
  unnoted (fetch a m len) n z = refl
  unnoted resync n z = refl
  unnoted rebuild n z = refl
  unnoted new_log n z = refl
  unnoted full_resync n z = refl

-- ---- failed members whose bytes never change

-- a flag that is set, as it was laid out
flag-set : (f : ℕ → Bool) (m : ℕ) → flag (flags_of f) m ≡ true → f m ≡ true
flag-set f m e =
    elim (dec_lt m 19) [
      | yes h ↦ sym (flag-back f m h) ∙ e
      | no h ↦ clash e (get_or-eq_default (flags_of f) false (omega (arith, flags-length f)))
    ]

-- a write leaves the flags
either_flags : (t : Bool) (p q : State) {f : ℕ → Bool} → p.failed ≡ f → q.failed ≡ f → (choose t p q).failed ≡ f
unfolding choose
either_flags true p q e e' = e
either_flags false p q e e' = e'

stripe-flags : (g : Geometry) (s : State) (x : ℕ) (w : ℕ → Bool) (v : ℕ → List ℕ) → (write_stripe g s x w v).failed ≡ s.failed
unfolding write_stripe logged made settled
stripe-flags g s x w v = either_flags (logs g s x w) (logged g s x w v) (made g s x (overwritten w v (s.disk x))) refl refl

write-flags : (g : Geometry) (c a n : ℕ) (v : List ℕ) (s : State) → (write_to g c a n v s).failed ≡ s.failed
unfolding write_to
write-flags g zero a n v s = refl
write-flags g (suc c) a n v s =
    let r = write_to g c a n v s in
    either_flags (any g.d (written g a n c)) (write_stripe g r c (written g a n c) (given g a v c)) r
    (stripe-flags g r c (written g a n c) (given g a v c) ∙ write-flags g c a n v s) (write-flags g c a n v s)

module _ (h : Lent) (k : Reported) (kept : Kept h.shelf.geometry h k) where
  -- an accepted put-back has its premise
  pub kept_returned : (c : Call) (n : ℕ) → n ≡ number_of h.shelf (length h.array) (length h.log) h.list c → Returned h.shelf.geometry h c n k
  kept_returned start n e = tt
  kept_returned (fail j) n e = tt
  kept_returned (put_back j) n e = λ z x hx.
      let o = (put-back_bounds h.shelf (length h.array) (length h.log) h.list j (sym z ∙ e)).1 in
      kept j x o.0 hx o.1
  kept_returned (write a m v) n e = tt
  kept_returned (read a m len) n e = tt
  kept_returned (fetch a m len) n e = tt
  kept_returned resync n e = tt
  kept_returned rebuild n e = tt
  kept_returned new_log n e = tt
  kept_returned full_resync n e = tt

  module _ (c : Call) (h' : Lent) (P : Answered h c 0 h') where
    -- a member that has failed after the call
    failed_then : (m : ℕ) → flag_at h'.shelf m ≡ true → (work h.shelf.geometry c (state_of h)).failed m ≡ true
    failed_then m e = flag-set (work h.shelf.geometry c (state_of h)).failed m (sym (ap (λ (r : Shelf). flag_at r m) (P.done refl).shelf) ∙ e)

    -- a call that stores nothing leaves the array
    array_stays : (mode : ℕ) (f : ℕ → Bool) → work h.shelf.geometry c (state_of h) ≡ turned (state_of h) mode f → tries_list c ≡ true → h'.array ≡ h.array
    array_stays mode f same three =
        (P.done refl).array ∙ ap (array_of h.shelf.geometry) same
        ∙ sym (array-here h.shelf h.array h.log h.list (tried_passed h.shelf h.array h.log h.list c three P.number) mode f)

    -- with none failed before and the flags as they were, none has failed
    none-failed : (work h.shelf.geometry c (state_of h)).failed ≡ flag_at h.shelf → array_failed h.shelf.geometry (flag_at h.shelf) ≡ false
        → (k' : Reported) → Kept h.shelf.geometry h' k'
    none-failed same ok k' m x hm hx e =
        clash (sym (ap (λ (f : ℕ → Bool). f m) same) ∙ failed_then m e) (any_none (array_members h.shelf.geometry) (flag_at h.shelf) ok m hm)

    -- where it stores nothing and no member fails, what was reported stays
    kept_still : (mode : ℕ) (f : ℕ → Bool) → work h.shelf.geometry c (state_of h) ≡ turned (state_of h) mode f → tries_list c ≡ true
        → ((m : ℕ) → f m ≡ true → flag_at h.shelf m ≡ true) → Kept h.shelf.geometry h' k
    kept_still mode f same three fewer m x hm hx e =
        ap (λ (a : List ℕ). member_block h.shelf.geometry a m x) (array_stays mode f same three)
        ∙ kept m x hm hx (fewer m (ap (λ (s : State). s.failed m) (sym same) ∙ failed_then m e))

  -- an accepted call leaves it so
  kept_accepted : (c : Call) (h' : Lent) → Answered h c 0 h' → Kept h.shelf.geometry h' (reported_after h.shelf.geometry h c 0 k)
  unfolding reported_after choose work state_of tries_list resynced made settled remade rebuilt
  kept_accepted start h' P = kept_still start h' P 1 (flag_at h.shelf) refl refl (λ m e. e)
  kept_accepted (fail j) h' P =
      let g = h.shelf.geometry in
      let stays = array_stays (fail j) h' P (mode_without g j (marks_in g (listed (state_of h).log)) h.shelf.mode) (set_at j true (flag_at h.shelf)) refl refl in
      λ m x hm hx e.
      ap (λ (a : List ℕ). member_block g a m x) stays
      ∙ elim (ℕ_discrete m j) [
        | yes q ↦ ap (λ (i : ℕ). member_block g h.array i x) q ∙ ap (λ (t : ℕ → List ℕ). t x) (sym (set_at-here j (member_block g h.array j) k m q))
        | no q ↦
            kept m x hm hx (sym (set_at_other j true (flag_at h.shelf) m q) ∙ failed_then (fail j) h' P m e)
            ∙ ap (λ (t : ℕ → List ℕ). t x) (sym (set_at_other j (member_block g h.array j) k m q))
      ]
  kept_accepted (put_back j) h' P =
      kept_still (put_back j) h' P h.shelf.mode (set_at j false (flag_at h.shelf)) refl refl (cleared j (flag_at h.shelf))
  kept_accepted (write a n v) h' P =
      none-failed (write a n v) h' P (write-flags h.shelf.geometry h.shelf.geometry.s a n v (state_of h))
      (write_passed h.shelf.geometry (state_of h) a n v (accepted_code h (write a n v) P.number)).1 k
  kept_accepted (read a n len) h' P = kept_still (read a n len) h' P h.shelf.mode (flag_at h.shelf) refl refl (λ m e. e)
  kept_accepted (fetch a n len) h' P = kept_still (fetch a n len) h' P h.shelf.mode (flag_at h.shelf) refl refl (λ m e. e)
  kept_accepted resync h' P =
      none-failed resync h' P (either_flags (ltb (resync_stripe h.shelf.geometry (state_of h)) h.shelf.geometry.s) _ _ refl refl)
      (resync_passed h.shelf.geometry (state_of h) (accepted_code h resync P.number)) k
  kept_accepted rebuild h' P = λ m x hm hx e.
      clash (failed_then rebuild h' P m e) (choose_true (ltb m (array_members h.shelf.geometry)) false (flag_at h.shelf m) (lt-ltb m (array_members h.shelf.geometry) hm))
  kept_accepted new_log h' P =
      let g = h.shelf.geometry in
      kept_still new_log h' P h.shelf.mode (set_at (log_member g) false (flag_at h.shelf)) refl refl (cleared (log_member g) (flag_at h.shelf))
  kept_accepted full_resync h' P =
      none-failed full_resync h' P refl (full_resync_passed h.shelf.geometry (state_of h) (accepted_code h full_resync P.number)) k

  pub kept_after : (c : Call) (n : ℕ) (h' : Lent) → Answered h c n h' → Kept h.shelf.geometry h' (reported_after h.shelf.geometry h c n k)
  kept_after c n h' P =
      elim (ℕ_discrete n 0) [
        | yes z ↦ subst (λ (i : ℕ). Kept h.shelf.geometry h' (reported_after h.shelf.geometry h c i k)) (sym z)
            (kept_accepted c h' (subst (λ (i : ℕ). Answered h c i h') z P))
        | no z ↦ subst (Kept h.shelf.geometry h') (sym (unnoted h k c n z)) (subst (λ (l : Lent). Kept h.shelf.geometry l k) (sym (P.refused z)) kept)
      ]
