-- The customer's second and third demand from a clean shelf on (`specs/Clean.antt`), so that shelves in mode 0 carry over after their list is filled
-- with none (`carried_over`). What was reported of its failed members is what sound ones would hold (`Recalled`); for every book there is such a
-- report (`recallable`). The fresh shelf of `Demand2` and `Demand3` is clean too. A clean shelf has one book (`one_book`), and a shelf whose parity
-- is that of its own blocks is clean beside the book of these (`own-blocks`).
-- Assumes nothing.
use mathlib.Core.Bool.{Bool, false}
use mathlib.Core.List.{List}
use mathlib.Core.Path.{◌≡◌, refl, sym, ap, ◌∙◌, subst}
use Prim.Native.Nat.{ℕ, ◌+◌, ◌-◌, ◌*◌, ◌<◌}
use native.Mathlib.Omega.{arith}
use lib.Dec.{ltb}
use lib.ListN.{length}
use borrow.Author.Tests.{lt-ltb, le-ltb}
use Rattle.stripe.specs.Sound.{AreBytes}
use Rattle.stripe.proofs.Laws.{place_lt}
use Rattle.shelf.specs.Members.{array_members, parity_role, place_at, block_parity}
use Rattle.shelf.specs.Counting.{choose}
use Rattle.shelf.specs.State.{stale}
use Rattle.shelf.specs.Status.{Call}
use Rattle.shelf.specs.Book.{Book, no_marks}
use Rattle.shelf.specs.Lent.{Lent, lent, flag_at, array_block, bad_measures, bad_record, bad_lengths, role_of, none_list}
use Rattle.shelf.specs.Sequence.{Reported, Sequence, Claimed, ReachedFrom}
use Rattle.shelf.specs.Clean.{Parity, Clean, Recalled}
use Rattle.shelf.specs.declared.record.Geometry.{Geometry}
use Rattle.shelf.proofs.numbers.InputLaws.{in_range_lem, lengths_pass, lengths-fine}
use Rattle.shelf.proofs.general.TestLaws.{choose_true, choose_false}
use Rattle.shelf.proofs.lent.LayoutLaws.{role_back}
use Rattle.shelf.proofs.agreement.RowParity.{cut-block}
use Rattle.shelf.proofs.lent.FreshLaws.{none-length}
use Rattle.shelf.proofs.lent.CleanLaws.{clean_exact}
use Rattle.shelf.proofs.lent.Reaching.{clean_stands, onward_stands}
use Rattle.shelf.proofs.theorems.Demand2.{standing-parity}
use Rattle.shelf.proofs.theorems.Demand3.{claimed}

-- Of each call of any sequence from there on the third demand's claim holds; and whatever such a sequence reaches has, in every stripe that is not
-- stale, the parity of the second demand.
pub carried_over : (g : Geometry) (h : Lent) (b : Book) (k : Reported) → Clean g h b → Recalled g (flag_at h.shelf) b.held b.held k
    → ((cs : List Call) (z : Sequence g cs h k) → Claimed g cs h z b)
    × ((h' : Lent) (b' : Book) (k' : Reported) → ReachedFrom g h b k h' b' k' → (x : ℕ) → x < g.s → stale g b'.state.marks x ≡ false
    → Parity g h' b' x)
carried_over g h b k C recalled =
    let Y = in_range_lem g C.measures in
    let S = clean_stands C recalled in
    (λ cs z. claimed g Y cs h k z b S, λ h' b' k' R. standing-parity g h' b' (onward_stands Y S R))

-- For every book there is what a clean shelf asks of what was reported.
pub recallable : (g : Geometry) (f : ℕ → Bool) (held : ℕ → ℕ → List ℕ) → (k : Reported) × Recalled g f held held k
recallable g f held = (
  λ m x. would (role_of g x m) x,
  record {
    blocks = λ x i _ hi _. ap (λ (n : ℕ). would n x) (role_back g x i (omega arith)) ∙ choose_true (ltb i g.d) (held x i) _ (lt-ltb i g.d hi);
    parity = λ x p _ hp _.
        ap (λ (n : ℕ). would n x) (role_back g x (parity_role g p) (omega arith))
        ∙ choose_false (ltb (parity_role g p) g.d) (held x (parity_role g p)) _ (le-ltb (parity_role g p) g.d (omega arith))
        ∙ ap (λ (n : ℕ). block_parity g n (held x)) (let e : g.d + p - g.d ≡ p = omega arith in e);
  },
)
  where
    -- what a sound member with role i has in stripe x
    would : ℕ → ℕ → List ℕ
    would i x = choose (ltb i g.d) (held x i) (block_parity g (i - g.d) (held x))

-- Two books beside one clean shelf hold the same blocks: the sound parity tells those of failed members.
pub one_book : (g : Geometry) (h : Lent) (b b' : Book) → Clean g h b → Clean g h b' → (x i : ℕ) → x < g.s → i < g.d → b.held x i ≡ b'.held x i
one_book g h b b' C =
    subst (λ (k : Geometry). Clean k h b → Clean k h b' → (x i : ℕ) → x < k.s → i < k.d → b.held x i ≡ b'.held x i) C.geometry
    (λ D D' x i hx hi. sym (clean_exact h b D x i hx hi) ∙ clean_exact h b' D' x i hx hi) C

-- ---- the shelf's own blocks

-- the book that holds the data blocks of the array as they stand
abbrev pub own_book : Lent → Book
own_book h = record { held = λ x i. array_block h.shelf.geometry h.array x i; failed = flag_at h.shelf; state = no_marks }

-- what is lent, its list filled with none
abbrev pub list_filled : Lent → Lent
list_filled h = lent h.shelf h.array h.log (none_list h.shelf.geometry)

-- A shelf in mode 0 to which numbers 1 and 2 do not apply, with the parity of its own data blocks, is clean beside the book of these once its list
-- is filled with none. With no failed member that is every shelf in mode 0 whose parity is right.
pub own-blocks : (h : Lent) → length h.shelf.failed ≡ 19 → bad_measures h.shelf.geometry ≡ false → bad_record h.shelf ≡ false
    → bad_lengths h.shelf.geometry (length h.array) (length h.log) (length h.list) ≡ false → h.shelf.mode ≡ 0 → AreBytes h.array
    → ((x : ℕ) → x < h.shelf.geometry.s → Parity h.shelf.geometry h (own_book h) x) → Clean h.shelf.geometry (list_filled h) (own_book h)
own-blocks h flags measures fine lengths mode bytes parity =
    let g = h.shelf.geometry in
    let n = lengths_pass g (length h.array) (length h.log) (length h.list) lengths in
    record {
      geometry = refl;
      flags = flags;
      measures = measures;
      fine = fine;
      lengths = lengths-fine g (length h.array) (length h.log) (length (none_list g)) n.0 n.1.0 (none-length g);
      mode = mode;
      list = refl;
      failed = refl;
      marks = refl;
      blocks = λ x i hx hi. cut-block g (place_at g x i) (array_members g * g.s) h.array bytes n.0 (place_lt g.layout g.d g.parities g.s x i hx (omega arith));
      sound = λ x i _ _ _. refl;
      parity = λ x hx. record { each = (parity x hx).each };
    }
