-- A shelf in mode 0 whose list is filled with none: number 3 is not given, and no block is listed. A clean shelf holds what its book says, and a
-- fetch of any block gives the book's.
-- Assumes nothing.
use mathlib.Core.Bool.{Bool, true, false, ◌&&◌}
use mathlib.Core.List.{List}
use Rattle.std.specs.Prelude.{None as none}
use mathlib.Core.Path.{◌≡◌, refl, sym, ap, ap₂, ◌∙◌, subst}
use Prim.Native.Nat.{ℕ, ◌≤◌, ◌<◌}
use native.Mathlib.Omega.{arith}
use lib.Dec.{ltb}
use lib.ListN.{length}
use borrow.Author.Tests.{eq-eqb, ltb-false}
use Rattle.shelf.specs.Counting.{count}
use Rattle.shelf.specs.Members.{InRange, all_members, member_at}
use Rattle.shelf.specs.State.{listed, stale, marks_in, fresh_state}
use Rattle.shelf.specs.Status.{log_failed}
use Rattle.shelf.specs.Calls.{block_at}
use Rattle.shelf.specs.Book.{Book, Marks}
use Rattle.shelf.specs.Words.{words}
use Rattle.shelf.specs.HashList.{valid}
use Rattle.shelf.specs.Lent.{Lent, flag_at, ori_by, cur_by, state_of, bad_record, none_list}
use Rattle.shelf.specs.Sequence.{Reported}
use Rattle.shelf.specs.Clean.{Clean, Recalled}
use Rattle.shelf.specs.below.Showing.{HoldsList}
use Rattle.shelf.specs.declared.record.Geometry.{Geometry}
use Rattle.shelf.specs.declared.record.Shelf.{Shelf}
use Rattle.shelf.proofs.general.CountLaws.{none_any}
use Rattle.shelf.proofs.general.TestLaws.{clash, and_fine}
use Rattle.shelf.proofs.numbers.InputLaws.{in_range_lem, Fine, fine_record, few-flags, lengths_pass}
use Rattle.shelf.proofs.numbers.FailureLaws.{none_above}
use Rattle.shelf.proofs.agreement.ListedLaws.{never_some, none_listed, none-marks}
use Rattle.shelf.proofs.agreement.Agreement.{Agrees}
use Rattle.shelf.proofs.agreement.ReadLaws.{block_exact}
use Rattle.shelf.proofs.lent.FreshLaws.{fresh_says}
use Rattle.shelf.proofs.lent.Holding.{HoldsAll}

-- ---- record and list, whatever array and log hold

module _ (r : Shelf) (Y : InRange r.geometry) (fine : bad_record r ≡ false) where
  F : Fine r
  F = fine_record r fine

  few : count (all_members r.geometry) (flag_at r) ≤ r.geometry.parities
  few = few-flags r fine (all_members r.geometry) (omega (arith, Y.d_most, Y.parities_most))

  -- in mode 0 nothing is listed, and no log record is in use
  module _ (normal : r.mode ≡ 0) where
    none_in : r.listed ≡ 0
    none_in =
        let z = ltb-false 0 r.listed (sym (ap (λ (t : Bool). t && ltb 0 r.listed) (eq-eqb r.mode 0 normal)) ∙ F.normal) in
        omega arith

    none-used : r.next ≡ 0
    none-used =
        let z = ltb-false 0 r.next (sym (ap (λ (t : Bool). t && ltb 0 r.next) (eq-eqb r.listed 0 none_in)) ∙ F.idle) in
        omega arith

    module _ (l : List ℕ) (filled : l ≡ none_list r.geometry) where
      says : HoldsList r.geometry (fresh_state r.geometry) 0 l
      says = subst (λ (k : List ℕ). HoldsList r.geometry (fresh_state r.geometry) 0 k) (sym filled) (fresh_says r.geometry Y)

      pub filled_passes : valid (words l) r.geometry r.next r.listed ≡ true
      unfolding fresh_state
      filled_passes = ap₂ (λ (x y : ℕ). valid (words l) r.geometry x y) none-used none_in ∙ says.passes

      pub no_ori : (x i : ℕ) → x < r.geometry.s → i < r.geometry.d → ori_by r.geometry l x i ≡ none
      unfolding fresh_state
      no_ori = says.ori

      pub no_cur : (x i : ℕ) → x < r.geometry.s → i < r.geometry.d → cur_by r.geometry l x i ≡ none
      unfolding fresh_state
      no_cur = says.cur

-- ---- beside a book

module _ (h : Lent) (b : Book) (C : Clean h.shelf.geometry h b) where
  abbrev g : Geometry
  g = h.shelf.geometry

  Y : InRange g
  Y = in_range_lem g C.measures

  ori-none : (x i : ℕ) → x < g.s → i < g.d → (state_of h).log.ori x i ≡ none
  unfolding state_of
  ori-none = no_ori h.shelf Y C.fine C.mode h.list C.list

  cur-none : (x i : ℕ) → x < g.s → i < g.d → (state_of h).log.cur x i ≡ none
  unfolding state_of
  cur-none = no_cur h.shelf Y C.fine C.mode h.list C.list

  not_listed : (x i : ℕ) → x < g.s → i < g.d → listed (state_of h).log x i ≡ false
  not_listed x i hx hi = none_listed (state_of h).log x i (ori-none x i hx hi) (cur-none x i hx hi)

  not-marked : marks_in g (listed (state_of h).log) ≡ 0
  not-marked = none-marks g (listed (state_of h).log) not_listed

  unused : h.shelf.next ≡ 0
  unused = none-used h.shelf Y C.fine C.mode

  unfoldable clean_agrees : Agrees g (state_of h) b
  unfolding state_of
  clean_agrees =
      record {
        near =
            record {
              mode = C.mode ∙ sym (ap (λ (m : Marks). m.mode) C.marks);
              next = unused ∙ sym (ap (λ (m : Marks). m.used) C.marks);
              failed = sym C.failed;
              marks = λ x i hx hi. not_listed x i hx hi ∙ sym (ap (λ (m : Marks). m.marks x i) C.marks);
              sound = C.sound;
              helds = C.blocks;
              orig = b.held;
              origs = C.blocks;
              noted =
                  record {
                    plain = λ x i _ _ _. refl;
                    oris = λ x i hx hi r e. absurd (never_some (sym (ori-none x i hx hi) ∙ e));
                    curs = λ x i hx hi r e. absurd (never_some (sym (cur-none x i hx hi) ∙ e));
                  };
              parity = λ x p hx. (C.parity x hx).each p;
              whole = λ x i j hx hi _ _ e. clash e (not_listed x i hx hi);
              few = few h.shelf Y C.fine;
              one = λ e. absurd (omega (arith, e, C.mode));
            };
        valid =
            record {
              room = omega (arith, unused);
              fits = omega (arith, not-marked);
              modes = omega (arith, C.mode);
              zero = λ _. not-marked;
              top = none_above h.shelf C.fine C.flags;
            };
        idle = λ _. (unused, λ e. omega (arith, e, C.mode));
      }

  pub clean_holds : (k : Reported) → Recalled g (flag_at h.shelf) b.held b.held k → HoldsAll h b k
  clean_holds k R =
      let n = lengths_pass g (length h.array) (length h.log) (length h.list) C.lengths in
      record {
        holds =
            record {
              agrees = clean_agrees;
              listed_are = none_in h.shelf Y C.fine C.mode ∙ sym not-marked;
              flags = C.flags;
              array = n.0;
              log = n.1.0;
              list = n.1.1;
              passes = filled_passes h.shelf Y C.fine C.mode h.list C.list;
            };
        recalled = unfold clean_agrees in R;
      }

  -- what a fetch gives of any block is the book's: none is withheld
  pub clean_exact : (x i : ℕ) → x < g.s → i < g.d → block_at g (state_of h) x i ≡ b.held x i
  clean_exact x i hx hi =
      block_exact g Y (state_of h) b clean_agrees.near x hx i hi
      (and_fine (log_failed g (state_of h).failed) _ (λ _. and_fine ((state_of h).failed (member_at g x i)) (stale g (listed (state_of h).log) x)
      (λ _. none_any g.d (listed (state_of h).log x) (λ j hj. not_listed x j hx hj))))
