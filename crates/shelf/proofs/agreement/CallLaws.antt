-- Start, fail, put back, new log, full resync, resync and rebuild keep the agreement; fail, put back and new log keep what is recalled besides.
-- Assumes nothing.
use mathlib.Core.Bool.{Bool, true, false, ◌&&◌}
use mathlib.Core.List.{List}
use mathlib.Core.Path.{◌≡◌, refl, sym, ap, ap₂, ◌∙◌, subst}
use Prim.Native.Nat.{ℕ, ◌≤◌, ◌<◌}
use native.Mathlib.Decide.{ℕ_discrete}
use native.Mathlib.Omega.{arith}
use lib.Dec.{eqb, ltb}
use borrow.Author.Tests.{eq-eqb, lt-ltb, le-ltb, eqb-true, eqb-false}
use Rattle.stripe.proofs.Laws.{one_to_one}
use Rattle.shelf.specs.Counting.{choose, count, any, set_at}
use Rattle.shelf.specs.Members.{InRange, array_members, log_member, all_members, parity_role, member_at, IsBlock}
use Rattle.shelf.specs.State.{State, is_some, listed, stale, marks_in, lowest_stale}
use Rattle.shelf.specs.Status.{start, fail, put_back, resync, rebuild, new_log, full_resync}
use Rattle.shelf.specs.Calls.{in_mode, next_left, mode_left, settled, made, remade, resynced, block_at, parity_failed, array_cleared, rebuilt, mode_without, work, code}
use Rattle.shelf.specs.Book.{Marks, Book, closed, book_work}
use Rattle.shelf.specs.Sequence.{Reported}
use Rattle.shelf.specs.Clean.{Recalled}
use Rattle.shelf.specs.declared.record.Geometry.{Geometry}
use Rattle.shelf.proofs.general.CountLaws.{bit_most, set_at-here, set_at-same, set_at_other, set_row_other, first_ext, any_none, count_mono, count_at, first_found, first_none}
use Rattle.shelf.proofs.general.TestLaws.{cases, clash, false_is, and_false, choose_true, choose_false}
use Rattle.shelf.proofs.agreement.ListedLaws.{never_some, unlisted, dropped_listed, marks_in_ext, stale_ext, marks-none, none-marks, no_marks_lem}
use Rattle.shelf.proofs.agreement.Agreement.{Nearly, Valid, Agrees, Invariant, AsReported, all_sound, fewer_recalled}
use Rattle.shelf.proofs.agreement.StatusLaws.{start_passed, fail_passed, put-back_passed, resync_passed, rebuild_passed, new_log_passed, full_resync_passed}
use Rattle.shelf.proofs.agreement.ReadLaws.{block_exact}
use Rattle.shelf.proofs.agreement.SettleLaws.{settled_agrees, closed_already, afresh_agrees, made_agrees}

-- ---- the mode when the log fails: t where it does so in mode 1, n blocks being listed

failed-mode : (t : Bool) (n m : ℕ) → mode_left n m ≡ m → choose t (choose (eqb n 0) 0 2) m ≡ mode_left n (choose t 2 m)
unfolding choose
failed-mode true n m e = go (eqb n 0)
  where
    go : (u : Bool) → ◌≡◌ {A = ℕ} (choose u 0 2) (choose (u && true) 0 2)
    go true = refl
    go false = refl
failed-mode false n m e = sym e

not-one : (u : Bool) → ◌≡◌ {A = ℕ} (choose u 0 2) 1 → ⊥
unfolding choose
not-one true e = omega arith
not-one false e = omega arith

-- still in mode 1: the log, member l, has not failed
failed-one : (j l m n : ℕ) (f : ℕ → Bool) → (m ≡ 1 → f l ≡ false) → choose (eqb j l && eqb m 1) (choose (eqb n 0) 0 2) m ≡ 1
    → set_at j true f l ≡ false
failed-one j l m n f one e =
    cases (eqb j l)
    (λ a.
    cases (eqb m 1)
    (λ c. absurd (not-one (eqb n 0) (sym (choose_true (eqb j l && eqb m 1) (choose (eqb n 0) 0 2) m (ap₂ ◌&&◌ a c)) ∙ e)))
    (λ c. absurd (eqb-false m 1 c (sym (choose_false (eqb j l && eqb m 1) (choose (eqb n 0) 0 2) m (ap₂ ◌&&◌ a c)) ∙ e))))
    (λ a.
    set_at_other j true f l (λ h. eqb-false j l a (sym h))
    ∙ one (sym (choose_false (eqb j l && eqb m 1) (choose (eqb n 0) 0 2) m (ap (λ (u : Bool). u && eqb m 1) a)) ∙ e))

failed-idle : (t : Bool) (n m : ℕ) → (m ≡ 2 → ⊥) → n ≡ 0 → choose t (choose (eqb n 0) 0 2) m ≡ 2 → ⊥
unfolding choose
failed-idle true n m h z e = let q : ◌≡◌ {A = ℕ} 0 2 = sym (choose_true (eqb n 0) 0 2 (eq-eqb n 0 z)) ∙ e in omega arith
failed-idle false n m h z e = h e

failed-most : (t : Bool) (n m : ℕ) → m ≤ 2 → choose t (choose (eqb n 0) 0 2) m ≤ 2
unfolding choose
failed-most true n m h = go (eqb n 0)
  where
    go : (u : Bool) → choose u 0 2 ≤ 2
    go true = omega arith
    go false = omega arith
failed-most false n m h = h

failed_zero : (t : Bool) (n m : ℕ) → (m ≡ 0 → n ≡ 0) → choose t (choose (eqb n 0) 0 2) m ≡ 0 → n ≡ 0
unfolding choose
failed_zero true n m h e =
    cases (eqb n 0) (eqb-true n 0) (λ z. let q : ◌≡◌ {A = ℕ} 2 0 = sym (choose_false (eqb n 0) 0 2 z) ∙ e in absurd (omega arith))
failed_zero false n m h e = h e

-- ---- a flag that is cleared

pub cleared : (j : ℕ) (f : ℕ → Bool) (i : ℕ) → set_at j false f i ≡ true → f i ≡ true
cleared j f i e = elim (ℕ_discrete i j) [ yes h ↦ clash e (set_at-here j false f i h) | no h ↦ sym (set_at_other j false f i h) ∙ e ]

stays_clear : (j : ℕ) (f : ℕ → Bool) (i : ℕ) → f i ≡ false → set_at j false f i ≡ false
stays_clear j f i e = false_is (set_at j false f i) (λ t. clash (cleared j f i t) e)

-- ---- the calls

-- with nothing listed, mode 2 is over at once
settled_none : (g : Geometry) (s : State) → marks_in g (listed s.log) ≡ 0 → s.log.next ≡ 0 → settled g (in_mode s 2) ≡ in_mode s 0
unfolding settled
settled_none g s z e =
    λ i. record {
      disk = s.disk;
      parity = s.parity;
      log = record { value = s.log.value; next = en i; ori = s.log.ori; cur = s.log.cur };
      mode = em i;
      failed = s.failed;
    }
  where
    en : next_left (marks_in g (listed s.log)) s.log.next ≡ s.log.next
    en = choose_true (eqb (marks_in g (listed s.log)) 0) 0 s.log.next (eq-eqb _ 0 z) ∙ sym e

    em : mode_left (marks_in g (listed s.log)) 2 ≡ 0
    em = choose_true (eqb (marks_in g (listed s.log)) 0 && eqb 2 2) 0 2 (ap (λ (u : Bool). u && eqb 2 2) (eq-eqb _ 0 z))

module _ (g : Geometry) (s : State) (b : Book) (A : Agrees g s b) where
  abbrev N : Nearly g s b
  N = A.near

  -- how many blocks are listed
  abbrev marks : ℕ
  marks = marks_in g (listed s.log)

  same-marks : marks_in g (listed s.log) ≡ marks_in g b.state.marks
  same-marks = marks_in_ext g (listed s.log) b.state.marks N.marks

  pub start-keeps : code g start s ≡ 0 → Agrees g (work g start s) (book_work g start b)
  unfolding work book_work
  start-keeps z =
      record {
        near =
            record {
              mode = refl;
              next = N.next;
              failed = N.failed;
              marks = N.marks;
              sound = N.sound;
              helds = N.helds;
              orig = N.orig;
              origs = N.origs;
              noted = N.noted;
              parity = N.parity;
              whole = N.whole;
              few = N.few;
              one = λ _. (start_passed g s z).1;
            };
        valid = record { room = A.valid.room; fits = A.valid.fits; modes = omega arith; zero = λ e. absurd (omega arith); top = A.valid.top };
        idle = λ e. ((A.idle e).0, λ q. omega arith);
      }

  -- ---- fail

  pub fail-keeps : (j : ℕ) (k k' : Reported) → Recalled g s.failed b.held N.orig k → ((m : ℕ) → (m ≡ j → ⊥) → (x : ℕ) → k' m x ≡ k m x)
      → AsReported g s j k' → code g (fail j) s ≡ 0
      → Invariant g (work g (fail j) s) (book_work g (fail j) b) k'
  unfolding work book_work closed
  fail-keeps j k k' R others now-has z =
      record {
        agrees =
            record {
              near =
                  record {
                    mode = mode;
                    next = N.next ∙ ap (λ (m : Marks). m.used) (sym (closed_already g s b A));
                    failed = ap (set_at j true) N.failed;
                    marks = N.marks;
                    sound = λ x i hx hi f. N.sound x i hx hi (before (member_at g x i) f);
                    helds = N.helds;
                    orig = N.orig;
                    origs = N.origs;
                    noted =
                        record {
                          plain = N.noted.plain;
                          oris = λ x i hx hi r e. let w = N.noted.oris x i hx hi r e in (w.0, λ f. w.1 (before (log_member g) f));
                          curs = λ x i hx hi r e. let w = N.noted.curs x i hx hi r e in (w.0, λ f. w.1 (before (log_member g) f));
                        };
                    parity = λ x p hx hp f. N.parity x p hx hp (before (member_at g x (parity_role g p)) f);
                    whole = N.whole;
                    few = most;
                    one = failed-one j (log_member g) s.mode marks s.failed N.one;
                  };
              valid =
                  record {
                    room = A.valid.room;
                    fits = A.valid.fits;
                    modes = failed-most now marks s.mode A.valid.modes;
                    zero = failed_zero now marks s.mode A.valid.zero;
                    top = λ i h. set_at_other j true s.failed i (λ e. omega (arith, passed.0)) ∙ A.valid.top i h;
                  };
              idle = λ e. ((A.idle e).0, failed-idle now marks s.mode (A.idle e).1 e);
            };
        recalled =
            record {
              blocks = λ x i hx hi f.
                  elim (ℕ_discrete (member_at g x i) j) [
                    | yes e ↦ sym (now-has.blocks x i hx hi e) ∙ N.sound x i hx hi (ap s.failed e ∙ passed.1.0)
                    | no e ↦ others (member_at g x i) e x ∙ R.blocks x i hx hi (sym (set_at_other j true s.failed (member_at g x i) e) ∙ f)
                  ];
              parity = λ x p hx hp f.
                  elim (ℕ_discrete (member_at g x (parity_role g p)) j) [
                    | yes e ↦ sym (now-has.parity x p hx hp e) ∙ N.parity x p hx hp (ap s.failed e ∙ passed.1.0)
                    | no e ↦ others (member_at g x (parity_role g p)) e x ∙ R.parity x p hx hp (sym (set_at_other j true s.failed (member_at g x (parity_role g p)) e) ∙ f)
                  ];
            };
      }
    where
      passed : (j ≤ log_member g) × ((s.failed j ≡ false) × (count (all_members g) s.failed < g.parities))
      passed = fail_passed g s j z

      -- the log fails in mode 1
      now : Bool
      now = eqb j (log_member g) && eqb s.mode 1

      -- a member that has not failed now had not failed before
      before : (i : ℕ) → set_at j true s.failed i ≡ false → s.failed i ≡ false
      before i e =
          elim (ℕ_discrete i j) [ yes h ↦ clash (set_at-here j true s.failed i h) e | no h ↦ sym (set_at_other j true s.failed i h) ∙ e ]

      most : count (all_members g) (set_at j true s.failed) ≤ g.parities
      most =
          let e =
          count_at (all_members g) (set_at j true s.failed) s.failed j (omega (arith, passed.0)) (λ i _ n. set_at_other j true s.failed i n) in
          omega (arith, e, bit_most (set_at j true s.failed j), passed.1.1)

      mode : mode_without g j (marks_in g (listed s.log)) s.mode ≡ mode_left (marks_in g b.state.marks) (choose (eqb j (log_member g) && eqb b.state.mode 1) 2 b.state.mode)
      mode =
          failed-mode now marks s.mode (ap₂ mode_left same-marks N.mode ∙ ap (λ (m : Marks). m.mode) (closed_already g s b A) ∙ sym N.mode)
          ∙ ap₂ (λ (n m : ℕ). mode_left n (choose (eqb j (log_member g) && eqb m 1) 2 m)) same-marks N.mode

  -- ---- put back

  pub put-back-keeps : (j : ℕ) (k : Reported) → Recalled g s.failed b.held N.orig k → AsReported g s j k → code g (put_back j) s ≡ 0
      → Invariant g (work g (put_back j) s) (book_work g (put_back j) b) k
  unfolding work book_work
  put-back-keeps j k R has z =
      record {
        agrees =
            record {
              near =
                  record {
                    mode = N.mode;
                    next = N.next;
                    failed = ap (set_at j false) N.failed;
                    marks = N.marks;
                    sound = λ x i hx hi f.
                        elim (ℕ_discrete (member_at g x i) j) [
                          | yes e ↦ has.blocks x i hx hi e ∙ R.blocks x i hx hi (ap s.failed e ∙ passed.1)
                          | no e ↦ N.sound x i hx hi (before (member_at g x i) e f)
                        ];
                    helds = N.helds;
                    orig = N.orig;
                    origs = N.origs;
                    noted =
                        record {
                          plain = N.noted.plain;
                          oris = λ x i hx hi r e. let w = N.noted.oris x i hx hi r e in (w.0, λ f. w.1 (before (log_member g) not-log f));
                          curs = λ x i hx hi r e. let w = N.noted.curs x i hx hi r e in (w.0, λ f. w.1 (before (log_member g) not-log f));
                        };
                    parity = λ x p hx hp f.
                        elim (ℕ_discrete (member_at g x (parity_role g p)) j) [
                          | yes e ↦ has.parity x p hx hp e ∙ R.parity x p hx hp (ap s.failed e ∙ passed.1)
                          | no e ↦ N.parity x p hx hp (before (member_at g x (parity_role g p)) e f)
                        ];
                    whole = N.whole;
                    few = omega (arith, N.few, count_mono (all_members g) (set_at j false s.failed) s.failed (λ i _. cleared j s.failed i));
                    one = λ e. stays_clear j s.failed (log_member g) (N.one e);
                  };
              valid =
                  record {
                    room = A.valid.room;
                    fits = A.valid.fits;
                    modes = A.valid.modes;
                    zero = A.valid.zero;
                    top = λ i h. stays_clear j s.failed i (A.valid.top i h);
                  };
              idle = A.idle;
            };
        recalled = fewer_recalled g (cleared j s.failed) R;
      }
    where
      passed : (j < array_members g) × (s.failed j ≡ true)
      passed = put-back_passed g s j z

      not-log : log_member g ≡ j → ⊥
      not-log e = omega (arith, e, passed.0)

      -- another member that is sound was so before
      before : (i : ℕ) → (i ≡ j → ⊥) → set_at j false s.failed i ≡ false → s.failed i ≡ false
      before i n f = sym (set_at_other j false s.failed i n) ∙ f

  -- ---- new log

  pub new_log_keeps : (k : Reported) → Recalled g s.failed b.held N.orig k → code g new_log s ≡ 0
      → Invariant g (work g new_log s) (book_work g new_log b) k
  unfolding work book_work
  new_log_keeps k R z =
      record {
        agrees =
            record {
              near =
                  record {
                    mode = N.mode;
                    next = N.next;
                    failed = ap (set_at (log_member g) false) N.failed;
                    marks = N.marks;
                    sound = λ x i hx hi f. N.sound x i hx hi (before x i (omega arith) f);
                    helds = N.helds;
                    orig = N.orig;
                    origs = N.origs;
                    noted =
                        record {
                          plain = N.noted.plain;
                          oris = λ x i hx hi r e. absurd (never_some (sym (unlisted s.log x i (bare x i hx hi)).0 ∙ e));
                          curs = λ x i hx hi r e. absurd (never_some (sym (unlisted s.log x i (bare x i hx hi)).1 ∙ e));
                        };
                    parity = λ x p hx hp f. N.parity x p hx hp (before x (parity_role g p) (omega arith) f);
                    whole = N.whole;
                    few =
                        omega (
                          arith,
                          N.few,
                          count_mono (all_members g) (set_at (log_member g) false s.failed) s.failed (λ i _. cleared (log_member g) s.failed i),
                        );
                    one = λ _. set_at-same (log_member g) false s.failed;
                  };
              valid =
                  record {
                    room = A.valid.room;
                    fits = A.valid.fits;
                    modes = A.valid.modes;
                    zero = A.valid.zero;
                    top = λ i h. set_at_other (log_member g) false s.failed i (λ e. omega arith) ∙ A.valid.top i h;
                  };
              idle = A.idle;
            };
        recalled = fewer_recalled g (cleared (log_member g) s.failed) R;
      }
    where
      bare : (x i : ℕ) → x < g.s → i < g.d → listed s.log x i ≡ false
      bare = marks-none g (listed s.log) (new_log_passed g s z)

      -- a stripe's members are none of them the log
      before : (x i : ℕ) → i < array_members g → set_at (log_member g) false s.failed (member_at g x i) ≡ false → s.failed (member_at g x i) ≡ false
      before x i h f =
          sym (set_at_other (log_member g) false s.failed (member_at g x i) (λ e. omega (arith, (one_to_one g.layout g.d g.parities x).within i h))) ∙ f

  -- ---- full resync

  -- the book with no marks
  abbrev unmarked : (ℕ → Bool) → Book
  unmarked f = record { held = b.held; failed = f; state = closed g (record { marks = λ _ _. false; used = b.state.used; mode = 0 }) }

  -- disks that hold what the book holds, with parity made of them in all stripes
  remade-keeps : (disk : ℕ → ℕ → List ℕ) → ((x i : ℕ) → x < g.s → i < g.d → disk x i ≡ b.held x i)
      → (f : ℕ → Bool) → count (all_members g) f ≤ g.parities → ((i : ℕ) → all_members g ≤ i → f i ≡ false) → Agrees g (remade g s disk f) (unmarked f)
  unfolding remade closed is_some
  remade-keeps disk e f c top =
      record {
        near =
            record {
              mode = sym (choose_false (empty && false) 0 0 (and_false empty));
              next = sym (choose_true empty 0 b.state.used (eq-eqb _ 0 (no_marks_lem g)));
              failed = refl;
              marks = λ x i _ _. refl;
              sound = λ x i hx hi _. e x i hx hi;
              helds = N.helds;
              orig = disk;
              origs = λ x i hx hi. subst (IsBlock g) (sym (e x i hx hi)) (N.helds x i hx hi);
              noted =
                  record {
                    plain = λ x i hx hi _. e x i hx hi;
                    oris = λ x i _ _ r z. absurd (never_some z);
                    curs = λ x i _ _ r z. absurd (never_some z);
                  };
              parity = λ x p _ _ _. refl;
              whole = λ x i j _ _ _ _ z. z;
              few = c;
              one = λ z. absurd (omega arith);
            };
        valid = record { room = omega arith; fits = omega (arith, no_marks_lem g); modes = omega arith; zero = λ _. no_marks_lem g; top = top };
        idle = λ _. (refl, λ z. omega arith);
      }
    where
      empty : Bool
      empty = eqb (marks_in g (λ _ _. false)) 0

  pub full_resync-keeps : code g full_resync s ≡ 0 → Agrees g (work g full_resync s) (book_work g full_resync b)
  unfolding work book_work
  full_resync-keeps z =
      subst (λ (f : ℕ → Bool). Agrees g (remade g s s.disk s.failed) (unmarked f)) N.failed
      (remade-keeps s.disk (all_sound N (full_resync_passed g s z)) s.failed N.few A.valid.top)

  -- ---- resync

  pub resync-keeps : code g resync s ≡ 0 → Agrees g (work g resync s) (book_work g resync b)
  unfolding work book_work resynced
  resync-keeps z = cases (any g.s (stale g (listed s.log))) some_stale none_stale
    where
      low : ℕ
      low = lowest_stale g (listed s.log)

      low' : ℕ
      low' = lowest_stale g b.state.marks

      same : low ≡ low'
      same = first_ext g.s _ _ (stale_ext g (listed s.log) b.state.marks N.marks)

      -- in mode 2, with any marks that are the listed ones
      near2 : (m : ℕ → ℕ → Bool) → ((x i : ℕ) → x < g.s → i < g.d → listed s.log x i ≡ m x i)
          → Nearly g (in_mode s 2) (record { held = b.held; failed = b.failed; state = record { marks = m; used = b.state.used; mode = 2 } })
      near2 m e =
          record {
            mode = refl;
            next = N.next;
            failed = N.failed;
            marks = e;
            sound = N.sound;
            helds = N.helds;
            orig = N.orig;
            origs = N.origs;
            noted = N.noted;
            parity = N.parity;
            whole = N.whole;
            few = N.few;
            one = λ q. absurd (omega arith);
          }

      valid2 : Valid g (in_mode s 2)
      valid2 = record { room = A.valid.room; fits = A.valid.fits; modes = omega arith; zero = λ e. absurd (omega arith); top = A.valid.top }

      -- the book in mode 2 without the marks of stripe t
      without : ℕ → Book
      without t =
          record {
            held = b.held;
            failed = b.failed;
            state = closed g (record { marks = set_at t (λ _. false) b.state.marks; used = b.state.used; mode = 2 });
          }

      some_stale : any g.s (stale g (listed s.log)) ≡ true → Agrees g (resynced g s) (without low')
      some_stale w =
          let l : low < g.s = (first_found g.s _ w).0 in
          let M : Agrees g (made g (in_mode s 2) low (s.disk low)) (without low) =
          made_agrees g (in_mode s 2) _ (near2 b.state.marks N.marks) valid2 low (s.disk low) b.held N.helds
          (λ i hi. all_sound N (resync_passed g s z) low i l hi) (λ x _ i. refl) in
          rw (choose_true (ltb low g.s) (made g (in_mode s 2) low (s.disk low)) (in_mode s 0) (lt-ltb low g.s l))
          (subst (λ (t : ℕ). Agrees g (made g (in_mode s 2) low (s.disk low)) (without t)) same M)

      none_stale : any g.s (stale g (listed s.log)) ≡ false → Agrees g (resynced g s) (without low')
      none_stale w =
          let no : marks_in g (listed s.log) ≡ 0 =
          none-marks g (listed s.log) (λ x i hx hi. any_none g.d (listed s.log x) (any_none g.s _ w x hx) i hi) in
          let last : low ≡ g.s = first_none g.s _ w in
          let kept : (x i : ℕ) → x < g.s → i < g.d → listed s.log x i ≡ set_at low' (λ _. false) b.state.marks x i =
          λ x i hx hi. N.marks x i hx hi ∙ sym (set_row_other low' (λ _. false) b.state.marks x i (λ e. omega (arith, same, last))) in
          let M : Agrees g (settled g (in_mode s 2)) (without low') = settled_agrees g (in_mode s 2) _ (near2 _ kept) valid2 in
          rw (choose_false (ltb low g.s) (made g (in_mode s 2) low (s.disk low)) (in_mode s 0) (le-ltb low g.s (omega (arith, last))))
          (subst (λ (t : State). Agrees g t (without low')) (settled_none g s no (A.idle no).0) M)

-- ---- rebuild

module _ (g : Geometry) (Y : InRange g) (s : State) (b : Book) (A : Agrees g s b) where
  pub refill_exact : code g rebuild s ≡ 0 → (x i : ℕ) → x < g.s → i < g.d → block_at g s x i ≡ b.held x i
  refill_exact z x i hx hi = block_exact g Y s b A.near x hx i hi (rebuild_passed g s z x i hx hi)

  pub rebuild-keeps : code g rebuild s ≡ 0 → Agrees g (work g rebuild s) (book_work g rebuild b)
  unfolding work book_work rebuilt choose
  rebuild-keeps z =
      afresh_agrees g s b A.near A.valid lost (block_at g s) b.held A.near.helds
      (λ x i hx hi _. refill_exact z x i hx hi) (λ x _ i. refl)
      (λ i e. cases (ltb i (array_members g)) (λ t. clash e (simp t)) (λ t. simp t at e))
      (λ e. simp (le-ltb (log_member g) (array_members g) (omega arith)) at e)
      (λ x p hp t _. any_none g.parities (λ q. s.failed (member_at g x (parity_role g q))) t p hp)
      (λ x i hx hi. dropped_listed s.log lost x i ∙ (λ j. choose (parity_failed g (A.near.failed j) x) false (A.near.marks x i hx hi j)))
      (ap (array_cleared g) A.near.failed)
    where
      lost : ℕ → Bool
      lost = parity_failed g s.failed
