-- The agreement of what is lent with the book: what holds of record and bytes between any two calls. It holds of a fresh shelf, every answered call
-- keeps it, and so do failed members' bytes that change.
-- Assumes nothing.
use mathlib.Core.Bool.{Bool, true, false, ◌||◌}
use mathlib.Core.List.{List}
use Rattle.std.specs.Prelude.{Option}
use mathlib.Core.Path.{◌≡◌, refl, sym, ap, ap₂, ◌∙◌, subst, fun_ext}
use Prim.Native.Nat.{ℕ, ◌+◌, ◌≤◌}
use native.Mathlib.Decide.{dec_lt, ℕ_discrete}
use native.Mathlib.Omega.{arith}
use lib.Dec.{eqb, ltb}
use lib.ListN.{length, get_or-eq_default}
use borrow.Author.Tests.{ne_eqb, le-ltb, eqb-true}
use Rattle.stripe.specs.Blocks.{block}
use Rattle.shelf.specs.Counting.{count}
use Rattle.shelf.specs.below.Records.{Sized}
use Rattle.shelf.specs.Members.{InRange, log_member, all_members}
use Rattle.shelf.specs.State.{State, is_some, listed, marks_in}
use Rattle.shelf.specs.Status.{Call}
use Rattle.shelf.specs.Calls.{code}
use Rattle.shelf.specs.Book.{Book, book_work, book_code, book_after}
use Rattle.shelf.specs.Words.{words}
use Rattle.shelf.specs.HashList.{valid}
use Rattle.shelf.specs.Lent.{Lent, lent, flag, flag_at, state_of, array_length, log_length, list_length, number_of, record_of, flags_of, listed_by, array_of, log_of, list_of, Leaves, Answered}
use Rattle.shelf.specs.below.Showing.{HoldsList}
use Rattle.shelf.specs.Sequence.{Fed, Reported, reported_after, Returned, Changed}
use Rattle.shelf.specs.Clean.{Recalled}
use Rattle.shelf.specs.declared.record.Geometry.{Geometry}
use Rattle.shelf.specs.declared.record.Shelf.{Shelf}
use Rattle.shelf.proofs.general.TestLaws.{and_fine}
use Rattle.shelf.proofs.numbers.InputLaws.{sized, Fine, record_fine, Passed, passed_number}
use Rattle.shelf.proofs.numbers.FailureLaws.{above-fine, flags-count}
use Rattle.shelf.proofs.lent.LayoutLaws.{array-length, array_back, log-length, log_back, role_data, role_parity, flags-length, flag-back}
use Rattle.shelf.proofs.lent.ListLayout.{laid_holds}
use Rattle.shelf.proofs.agreement.ListedLaws.{marks_in_ext}
use Rattle.shelf.proofs.agreement.Agreement.{Agrees, Invariant, Alike, alike_keeps}
use Rattle.shelf.proofs.lent.HeldBlocks.{disk-block, parity-block}
use Rattle.shelf.proofs.lent.ReportLaws.{noting, unnoted}
use Rattle.shelf.proofs.agreement.Steps.{says, keeps, book_accepted, book_refused}

-- What is lent agrees with the book as a state, and passes rows 1 to 3.
pub record Holds (h : Lent) (b : Book) : Type 0 where
  pub agrees : Agrees h.shelf.geometry (state_of h) b
  pub listed_are : h.shelf.listed ≡ marks_in h.shelf.geometry (listed (state_of h).log)
  pub flags : length h.shelf.failed ≡ 19
  pub array : length h.array ≡ array_length h.shelf.geometry
  pub log : length h.log ≡ log_length h.shelf.geometry
  pub list : length h.list ≡ list_length h.shelf.geometry
  pub passes : valid (words h.list) h.shelf.geometry h.shelf.next h.shelf.listed ≡ true

-- And what was reported of failed members is what sound ones would hold.
pub record HoldsAll (h : Lent) (b : Book) (k : Reported) : Type 0 where
  pub holds : Holds h b
  pub recalled : Recalled h.shelf.geometry (flag_at h.shelf) b.held holds.agrees.near.orig k

-- ---- numbers 1, 2 and 3 are not given

module _ (h : Lent) (b : Book) (small : Sized h.shelf.geometry) (H : Holds h b) where
  abbrev r : Shelf
  r = h.shelf

  abbrev g : Geometry
  g = h.shelf.geometry

  abbrev A : Agrees h.shelf.geometry (state_of h) b
  A = H.agrees

  none_listed : eqb r.listed 0 ≡ true → marks_in g (listed (state_of h).log) ≡ 0
  none_listed e = sym H.listed_are ∙ eqb-true r.listed 0 e

  -- no flag above the log's is set
  top : (i : ℕ) → all_members g ≤ i → flag_at r i ≡ false
  unfolding state_of
  top = A.valid.top

  fine : Fine r
  unfolding state_of
  fine =
      record {
        modes = le-ltb 2 r.mode A.valid.modes;
        above = above-fine r top;
        few = le-ltb r.geometry.parities (count 19 (flag_at r)) (omega (arith, flags-count r top small, A.near.few));
        room = le-ltb g.l r.next A.valid.room;
        fits = le-ltb g.e r.listed (omega (arith, H.listed_are, A.valid.fits));
        idle = and_fine (eqb r.listed 0) (ltb 0 r.next) (λ e. le-ltb 0 r.next (omega (arith, (A.idle (none_listed e)).0)));
        normal = and_fine (eqb r.mode 0) (ltb 0 r.listed)
            (λ e. le-ltb 0 r.listed (omega (arith, H.listed_are, A.valid.zero (eqb-true r.mode 0 e))));
        transitional = and_fine (eqb r.mode 2) (eqb r.listed 0)
            (λ e. ne_eqb r.listed 0 (λ z. (A.idle (sym H.listed_are ∙ z)).1 (eqb-true r.mode 2 e)));
        accelerating = and_fine (eqb r.mode 1) (flag_at r (log_member g)) (λ e. A.near.one (eqb-true r.mode 1 e));
      }

-- rows 1 to 3 pass
pub holds_passed : (h : Lent) (b : Book) → InRange h.shelf.geometry → Holds h b → Passed h.shelf (length h.array) (length h.log) h.list
holds_passed h b Y H =
    record { range = Y; fine = record_fine h.shelf (fine h b (sized Y) H); array = H.array; log = H.log; list = H.list; valid = H.passes }

-- the number that a call gets is the book's
pub number_book : (h : Lent) (b : Book) → InRange h.shelf.geometry → Holds h b → (c : Call)
    → number_of h.shelf (length h.array) (length h.log) h.list c ≡ book_code h.shelf.geometry c b
unfolding state_of
number_book h b Y H c =
    passed_number h.shelf (length h.array) (length h.log) h.list (holds_passed h b Y H) c ∙ says Y H.agrees c

-- ---- a state that was left behind is read back

pub leaves_is : (g : Geometry) (s : State) (h : Lent) → Leaves g s h → h ≡ lent (record_of g s) (array_of g s) (log_of g s) (list_of g s)
leaves_is g s h L = λ i. record { shelf = L.shelf i; array = L.array i; log = L.log i; list = L.list i }

flags-back : (f : ℕ → Bool) → ((i : ℕ) → 19 ≤ i → f i ≡ false) → (λ (i : ℕ). flag (flags_of f) i) ≡ f
flags-back f top =
    fun_ext (λ i. elim (dec_lt i 19) [
      | yes h ↦ flag-back f i h
      | no h ↦ get_or-eq_default (flags_of f) false (omega (arith, flags-length f)) ∙ sym (top i (omega arith))
    ])

module _ {g : Geometry} (Y : InRange g) {s : State} {b : Book} {k : Reported} (I : Invariant g s b k) where
  -- the list that the state is laid out as
  listing : HoldsList g s (marks_in g (listed s.log)) (list_of g s)
  listing =
      let N = I.agrees.near in
      laid_holds g s Y (record {
        oris = λ x i hx hi r e. (N.noted.oris x i hx hi r e).0;
        curs = λ x i hx hi r e. (N.noted.curs x i hx hi r e).0;
        whole = N.whole;
        room = I.agrees.valid.room;
        few = I.agrees.valid.fits;
      })

  laid_alike : Alike g s (state_of (lent (record_of g s) (array_of g s) (log_of g s) (list_of g s)))
  unfolding state_of
  laid_alike =
      record {
        disk = λ x i hx hi f.
            array_back g s x i hx (omega arith) (ap length (role_data g s x i hi) ∙ (disk-block I.agrees x i hx hi f).0) ∙ role_data g s x i hi;
        parity = λ x p hx hp f.
            array_back g s x (g.d + p) hx (omega arith) (ap length (role_parity g s x p) ∙ (parity-block I.agrees x p hx hp f).0) ∙ role_parity g s x p;
        log = λ r hr f e. log_back g s r hr e;
        next = refl;
        ori = listing.ori;
        cur = listing.cur;
        mode = refl;
        failed = flags-back s.failed (λ i h. I.agrees.valid.top i (omega (arith, Y.d_most, Y.parities_most)));
      }

  laid_marks : marks_in g (listed s.log) ≡ marks_in g (listed (state_of (lent (record_of g s) (array_of g s) (log_of g s) (list_of g s))).log)
  unfolding state_of
  laid_marks =
      sym (marks_in_ext g (listed_by g (list_of g s)) (listed s.log)
      (λ x i hx hi. ap₂ (λ (o c : Option ℕ). is_some o || is_some c) (listing.ori x i hx hi) (listing.cur x i hx hi)))

  -- and holds
  pub leaves_holds : (h : Lent) → Leaves g s h → HoldsAll h b k
  unfolding state_of
  leaves_holds h L =
      let J = alike_keeps laid_alike I in
      subst (λ (l : Lent). HoldsAll l b k) (sym (leaves_is g s h L)) (record {
        holds =
            record {
              agrees = J.agrees;
              listed_are = laid_marks;
              flags = flags-length s.failed;
              array = array-length g s;
              log = log-length g s;
              list = listing.length_of;
              passes = listing.passes;
            };
        recalled = J.recalled;
      })

-- ---- failed members' bytes

module _ (r : Shelf) (a n l a' n' : List ℕ) (C : Changed r.geometry (lent r a n l) (lent r a' n' l)) where
  changed_alike : Alike r.geometry (state_of (lent r a n l)) (state_of (lent r a' n' l))
  unfolding state_of
  changed_alike =
      record {
        disk = λ x i hx hi f. C.array x i hx (omega arith) f;
        parity = λ x p hx hp f. C.array x (r.geometry.d + p) hx (omega arith) f;
        log = λ k _ f _. ap (block r.geometry.b k) (C.log f);
        next = refl;
        ori = λ x i _ _. refl;
        cur = λ x i _ _. refl;
        mode = refl;
        failed = refl;
      }

  same-holds : (b : Book) (k : Reported) → HoldsAll (lent r a n l) b k → HoldsAll (lent r a' n' l) b k
  unfolding state_of
  same-holds b k R =
      let H = R.holds in
      let J = alike_keeps changed_alike (record { agrees = H.agrees; recalled = R.recalled }) in
      record {
        holds =
            record {
              agrees = J.agrees;
              listed_are = H.listed_are;
              flags = H.flags;
              array = C.array-length ∙ H.array;
              log = C.log-length ∙ H.log;
              list = H.list;
              passes = H.passes;
            };
        recalled = J.recalled;
      }

pub changed-holds : (h h' : Lent) (b : Book) (k : Reported) → Changed h.shelf.geometry h h' → HoldsAll h b k → HoldsAll h' b k
changed-holds h h' b k C H =
    subst (λ (l : Lent). HoldsAll l b k) (sym e)
    (same-holds h.shelf h.array h.log h.list h'.array h'.log (subst (λ (l : Lent). Changed h.shelf.geometry h l) e C) b k H)
  where
    e : h' ≡ lent h.shelf h'.array h'.log h.list
    e = λ i. record { shelf = C.shelf i; array = h'.array; log = h'.log; list = C.list i }

-- ---- a call

-- the geometry stays
pub answered_geometry : (h : Lent) (c : Call) (n : ℕ) (h' : Lent) → Answered h c n h' → h'.shelf.geometry ≡ h.shelf.geometry
answered_geometry h c n h' P =
    elim (ℕ_discrete n 0) [
      | yes z ↦ ap (λ (r : Shelf). r.geometry) (P.done z).shelf
      | no z ↦ ap (λ (k : Lent). k.shelf.geometry) (P.refused z)
    ]

module _ (h : Lent) (b : Book) (Y : InRange h.shelf.geometry) (H : Holds h b) (c : Call) (n : ℕ) (h' : Lent) (P : Answered h c n h') where
  -- each call gets the book's number
  pub answered_number : n ≡ book_code h.shelf.geometry c b
  answered_number = P.number ∙ number_book h b Y H c

  -- accepted by the book, and so as a state
  pub answered_code : n ≡ 0 → code h.shelf.geometry c (state_of h) ≡ 0
  answered_code z = says Y H.agrees c ∙ sym answered_number ∙ z

module _ (h : Lent) (b : Book) (k : Reported) (Y : InRange h.shelf.geometry) (R : HoldsAll h b k) (c : Call) (n : ℕ) (h' : Lent) (P : Answered h c n h') where
  pub answered_holds : Fed c → Returned h.shelf.geometry h c n k → HoldsAll h' (book_after h.shelf.geometry c b) (reported_after h.shelf.geometry h c n k)
  unfolding state_of
  answered_holds fed back =
      let g = h.shelf.geometry in
      let H = R.holds in
      let number = answered_number h b Y H c n h' P in
      elim (ℕ_discrete n 0) [
        | yes z ↦
            subst (λ (e : Book). HoldsAll h' e (reported_after g h c n k)) (sym (book_accepted g c b (sym number ∙ z)))
            (subst (λ (m : ℕ). HoldsAll h' (book_work g c b) (reported_after g h c m k)) (sym z)
            (leaves_holds Y
            (keeps Y c k (reported_after g h c 0 k) fed (noting h k c (subst (λ (m : ℕ). Returned g h c m k) z back)) (record { agrees = H.agrees; recalled = R.recalled })
            (answered_code h b Y H c n h' P z)) h' (P.done z)))
        | no z ↦
            subst (λ (e : Book). HoldsAll h' e (reported_after g h c n k)) (sym (book_refused g c b (λ e. z (number ∙ e))))
            (subst (HoldsAll h' b) (sym (unnoted h k c n z)) (subst (λ (l : Lent). HoldsAll l b k) (sym (P.refused z)) R))
      ]
