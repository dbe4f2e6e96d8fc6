-- Laws of dropping blocks from the list: what happens when the last one goes, and stripes whose parity is made afresh.
-- Assumes nothing.
use mathlib.Core.Bool.{Bool, true, false, ◌&&◌}
use mathlib.Core.List.{List}
use mathlib.Core.Logic.{◌⊎◌, inl, inr, ⊎_elim}
use mathlib.Core.Path.{◌≡◌, sym, ap, ap₂, ◌∙◌}
use Prim.Native.Nat.{ℕ, ◌<◌}
use native.Mathlib.Omega.{arith}
use lib.Dec.{eqb}
use borrow.Author.Tests.{eq-eqb, eqb-true, eqb-false}
use Rattle.shelf.specs.Counting.{choose, set_at}
use Rattle.shelf.specs.Members.{log_member, all_members, parity_role, member_at}
use Rattle.shelf.specs.State.{State, is_some, listed, marks_in}
use Rattle.shelf.specs.Calls.{with_flags, next_left, mode_left, settled, dropped, afresh, made}
use Rattle.shelf.specs.Book.{Book, closed}
use Rattle.shelf.specs.declared.record.Geometry.{Geometry}
use Rattle.shelf.proofs.general.CountLaws.{count_mono}
use Rattle.shelf.proofs.general.TestLaws.{cases, clash, false_is, and_left, and_right, choose_true, choose_false}
use Rattle.shelf.proofs.agreement.RowParity.{block_parity_ext}
use Rattle.shelf.proofs.agreement.ListedLaws.{never_some, ori_listed, cur_listed, marks_in_ext, marks-none, dropped_fewer}
use Rattle.shelf.proofs.agreement.Agreement.{AreBlocks, Nearly, Valid, Agrees}

-- ---- when nothing is left listed

-- the book with its marks closed
abbrev pub closed_book : Geometry → Book → Book
closed_book g b = record { held = b.held; failed = b.failed; state = closed g b.state }

-- settling the shelf is closing the book
pub settled_agrees : (g : Geometry) (s : State) (b : Book) → Nearly g s b → Valid g s → Agrees g (settled g s) (closed_book g b)
unfolding settled closed
settled_agrees g s b A W = record { near = near; valid = valid; idle = idle }
  where
    n : ℕ
    n = marks_in g (listed s.log)

    -- the two tests of settling
    empty : Bool
    empty = eqb (marks_in g (listed s.log)) 0

    ends : Bool
    ends = eqb (marks_in g (listed s.log)) 0 && eqb s.mode 2

    same : marks_in g (listed s.log) ≡ marks_in g b.state.marks
    same = marks_in_ext g (listed s.log) b.state.marks A.marks

    -- a listed block's record stays below the next free one
    below : (x i r : ℕ) → x < g.s → i < g.d → listed s.log x i ≡ true → r < s.log.next → r < next_left n s.log.next
    below x i r hx hi l h =
        cases empty (λ z. clash l (marks-none g (listed s.log) (eqb-true _ _ z) x i hx hi)) (λ z. rw (choose_false empty 0 s.log.next z) h)

    was_one : mode_left n s.mode ≡ 1 → s.mode ≡ 1
    was_one e =
        cases ends
        (λ z. let q : ◌≡◌ {A = ℕ} 0 1 = sym (choose_true ends 0 s.mode z) ∙ e in absurd (omega arith))
        (λ z. sym (choose_false ends 0 s.mode z) ∙ e)

    near : Nearly g (settled g s) (closed_book g b)
    near =
        record {
          mode = ap₂ mode_left same A.mode;
          next = ap₂ next_left same A.next;
          failed = A.failed;
          marks = A.marks;
          sound = A.sound;
          helds = A.helds;
          orig = A.orig;
          origs = A.origs;
          noted =
              record {
                plain = A.noted.plain;
                oris = λ x i hx hi r e. let w = A.noted.oris x i hx hi r e in (below x i r hx hi (ori_listed s.log x i r e) w.0, w.1);
                curs = λ x i hx hi r e. let w = A.noted.curs x i hx hi r e in (below x i r hx hi (cur_listed s.log x i r e) w.0, w.1);
              };
          parity = A.parity;
          whole = A.whole;
          few = A.few;
          one = λ e. A.one (was_one e);
        }

    valid : Valid g (settled g s)
    valid =
        record {
          room =
              cases empty (λ z. rw (choose_true empty 0 s.log.next z) (omega arith)) (λ z. rw (choose_false empty 0 s.log.next z) W.room);
          fits = W.fits;
          modes = cases ends (λ z. rw (choose_true ends 0 s.mode z) (omega arith)) (λ z. rw (choose_false ends 0 s.mode z) W.modes);
          zero = λ e.
              cases ends (λ z. eqb-true _ _ (and_left empty (eqb s.mode 2) z)) (λ z. W.zero (sym (choose_false ends 0 s.mode z) ∙ e));
          top = W.top;
        }

    idle : n ≡ 0 → (next_left n s.log.next ≡ 0) × (mode_left n s.mode ≡ 2 → ⊥)
    idle z =
        let t : empty ≡ true = eq-eqb n 0 z in (
          choose_true empty 0 s.log.next t,
          λ e.
              cases (eqb s.mode 2)
              (λ u. let q : ◌≡◌ {A = ℕ} 0 2 = sym (choose_true ends 0 s.mode (ap₂ ◌&&◌ t u)) ∙ e in omega arith)
              (λ u. eqb-false s.mode 2 u (sym (choose_false ends 0 s.mode (ap₂ ◌&&◌ t u)) ∙ e)),
        )

-- closing a book that agrees with a shelf changes nothing
pub closed_already : (g : Geometry) (s : State) (b : Book) → Agrees g s b → closed g b.state ≡ b.state
unfolding closed
closed_already g s b A = λ i. record { marks = b.state.marks; used = e i; mode = f i }
  where
    same : marks_in g (listed s.log) ≡ marks_in g b.state.marks
    same = marks_in_ext g (listed s.log) b.state.marks A.near.marks

    e : next_left (marks_in g b.state.marks) b.state.used ≡ b.state.used
    e =
        cases (eqb (marks_in g b.state.marks) 0)
        (λ z.
        choose_true (eqb (marks_in g b.state.marks) 0) 0 b.state.used z ∙ sym (A.idle (same ∙ eqb-true _ _ z)).0 ∙ A.near.next)
        (λ z. choose_false (eqb (marks_in g b.state.marks) 0) 0 b.state.used z)

    f : mode_left (marks_in g b.state.marks) b.state.mode ≡ b.state.mode
    f =
        cases (eqb (marks_in g b.state.marks) 0 && eqb b.state.mode 2)
        (λ z.
        let u : marks_in g b.state.marks ≡ 0 = eqb-true _ _ (and_left (eqb (marks_in g b.state.marks) 0) (eqb b.state.mode 2) z) in
        let v : b.state.mode ≡ 2 = eqb-true _ _ (and_right (eqb (marks_in g b.state.marks) 0) (eqb b.state.mode 2) z) in
        absurd ((A.idle (same ∙ u)).1 (A.near.mode ∙ v)))
        (λ z. choose_false (eqb (marks_in g b.state.marks) 0 && eqb b.state.mode 2) 0 b.state.mode z)

-- ---- parity made afresh in the stripes that pass the test t

-- With new disks, blocks held and flags f. The disks of those stripes and all sound disks hold what is held, which in the other stripes is as it
-- was. No member fails; the log, and the parities of the other stripes, are sound only where they were.
module _ (g : Geometry) (s : State) (b : Book) (A : Nearly g s b) (W : Valid g s) (t : ℕ → Bool) (disk held : ℕ → ℕ → List ℕ) (proper : AreBlocks g held)
    {f f' : ℕ → Bool} {marks : ℕ → ℕ → Bool}
    (exact : (x i : ℕ) → x < g.s → i < g.d → (t x ≡ true) ⊎ (f (member_at g x i) ≡ false) → disk x i ≡ held x i)
    (kept : (x : ℕ) → t x ≡ false → (i : ℕ) → held x i ≡ b.held x i)
    (fewer : (i : ℕ) → f i ≡ true → s.failed i ≡ true) (log-was : f (log_member g) ≡ false → s.failed (log_member g) ≡ false)
    (parity-was : (x p : ℕ) → p < g.parities → t x ≡ false → f (member_at g x (parity_role g p)) ≡ false → s.failed (member_at g x (parity_role g p)) ≡ false)
    (same-marks : (x i : ℕ) → x < g.s → i < g.d → listed (dropped s.log t) x i ≡ marks x i) (same_flags : f ≡ f') where
  -- a member that was sound is
  still : (i : ℕ) → s.failed i ≡ false → f i ≡ false
  still i e = false_is (f i) (λ u. clash (fewer i u) e)

  pub afresh_agrees : Agrees g (settled g (with_flags (afresh g s t disk) f))
      (closed_book g (record { held = held; failed = f'; state = record { marks = marks; used = b.state.used; mode = b.state.mode } }))
  unfolding choose is_some
  afresh_agrees =
      settled_agrees g _ _
      (record {
        mode = A.mode;
        next = A.next;
        failed = same_flags;
        marks = same-marks;
        sound = λ x i hx hi u. exact x i hx hi (inr u);
        helds = proper;
        orig = λ x i. choose (t x) (held x i) (A.orig x i);
        origs = λ x i hx hi. cases (t x) (λ e. simp e (proper x i hx hi)) (λ e. simp e (A.origs x i hx hi));
        noted =
            record {
              plain = λ x i hx hi c. cases (t x) (λ e. simp e) (λ e. simp e (A.noted.plain x i hx hi (simp e at c) ∙ sym (kept x e i)));
              oris = λ x i hx hi r c.
                  cases (t x)
                  (λ e. absurd (never_some (simp e at c)))
                  (λ e. let w = A.noted.oris x i hx hi r (simp e at c) in (w.0, λ l. simp e (w.1 (log-was l))));
              curs = λ x i hx hi r c.
                  cases (t x)
                  (λ e. absurd (never_some (simp e at c)))
                  (λ e. let w = A.noted.curs x i hx hi r (simp e at c) in (w.0, λ l. w.1 (log-was l) ∙ sym (kept x e i)));
            };
        parity = λ x p hx hp u.
            cases (t x)
            (λ e. simp e (block_parity_ext g p (disk x) (held x) (λ i hi. exact x i hx hi (inl e))))
            (λ e. simp e (A.parity x p hx hp (parity-was x p hp e u)));
        whole = λ x i j hx hi hj o l.
            cases (t x) (λ e. clash l (simp e)) (λ e. simp e (A.whole x i j hx hi hj (simp e at o) (simp e at l)));
        few = omega (arith, A.few, count_mono (all_members g) f s.failed (λ i _. fewer i));
        one = λ e. still (log_member g) (A.one e);
      })
      (record {
        room = W.room;
        fits = omega (arith, W.fits, dropped_fewer g s.log t);
        modes = W.modes;
        zero = λ e. omega (arith, W.zero e, dropped_fewer g s.log t);
        top = λ i h. still i (W.top i h);
      })

-- stripe t made of a row that the new book holds there
module _ (g : Geometry) (s : State) (b : Book) (A : Nearly g s b) (W : Valid g s) (t : ℕ) (row : ℕ → List ℕ) (held : ℕ → ℕ → List ℕ) (proper : AreBlocks g held)
    (here : (i : ℕ) → i < g.d → row i ≡ held t i) (there : (x : ℕ) → (x ≡ t → ⊥) → (i : ℕ) → held x i ≡ b.held x i) where
  pub made_agrees : Agrees g (made g s t row) (closed_book g (record {
    held = held;
    failed = b.failed;
    state = record { marks = set_at t (λ _. false) b.state.marks; used = b.state.used; mode = b.state.mode };
  }))
  unfolding made choose set_at is_some
  made_agrees =
      afresh_agrees g s b A W (λ x. eqb x t) (set_at t row s.disk) held proper
      (λ x i hx hi o.
      cases (eqb x t)
      (λ e. simp e (here i hi ∙ ap (λ (z : ℕ). held z i) (sym (eqb-true x t e))))
      (λ e. simp e (A.sound x i hx hi (⊎_elim (λ y. clash y e) (λ u. u) o) ∙ sym (there x (eqb-false x t e) i))))
      (λ x e. there x (eqb-false x t e)) (λ i e. e) (λ e. e) (λ x p _ _ e. e)
      (λ x i hx hi. cases (eqb x t) (λ e. simp e) (λ e. simp e (A.marks x i hx hi))) A.failed
