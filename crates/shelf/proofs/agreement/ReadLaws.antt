-- What a fetch gives is what the book holds, and so is what a plain read gives.
-- Assumes nothing.
use mathlib.Core.Bool.{Bool, true, false, not, ◌&&◌}
use mathlib.Core.List.{List}
use Rattle.std.specs.Prelude.{Option, None as none, Some as some}
use mathlib.Core.Path.{◌≡◌, sym, ap, ap₂, ◌∙◌, subst}
use Prim.Native.Nat.{ℕ, ◌+◌, ◌-◌, ◌/◌, ◌%◌, ◌≤◌, ◌<◌}
use native.Mathlib.Decide.{dec_lt}
use native.Mathlib.Nat.{mod-lt}
use native.Mathlib.Omega.{arith}
use lib.Dec.{ltb}
use borrow.Author.Tests.{lt-ltb, le-ltb}
use Rattle.stripe.proofs.Laws.{one_to_one}
use Rattle.shelf.specs.Counting.{choose, count}
use Rattle.shelf.specs.Members.{InRange, array_members, all_members, member_at, wanted, block_parity, worked_back}
use Rattle.shelf.specs.State.{State, is_some, listed, stale}
use Rattle.shelf.specs.Status.{read, fetch, log_failed, withheld}
use Rattle.shelf.specs.Calls.{or_else, original, missing, block_at, code}
use Rattle.shelf.specs.Book.{Book}
use Rattle.shelf.specs.Lent.{buffer_of, read_buffer, fetch_buffer}
use Rattle.shelf.specs.declared.record.Geometry.{Geometry}
use Rattle.shelf.proofs.general.CountLaws.{any_none, count-more, no_two_roles, no_three_roles}
use Rattle.shelf.proofs.general.TestLaws.{cases, clash, choose_true, choose_false}
use Rattle.shelf.proofs.lent.LayoutLaws.{blocks_of-same}
use Rattle.shelf.proofs.agreement.RowParity.{FewMissing, worked_exact}
use Rattle.shelf.proofs.agreement.ListedLaws.{opt_cases, some_is, unlisted, ori_listed, none_listed}
use Rattle.shelf.proofs.agreement.Agreement.{Nearly, positive}
use Rattle.shelf.proofs.agreement.StatusLaws.{in_stripe, read_passed, fetch_passed}

-- Where each listed block of stripe x has an Ori: which roles are missing, of a state with no more failed members than parities.
module _ (g : Geometry) (s : State) (x : ℕ) (have : (j : ℕ) → j < g.d → s.log.ori x j ≡ none → listed s.log x j ≡ false) where
  pub missing-some : (j r : ℕ) → j < g.d → s.log.ori x j ≡ some r → missing g s x j ≡ false
  unfolding choose
  missing-some j r h e =
      ap₂ (λ (t u : Bool). choose (t && u) (not (is_some (s.log.ori x j))) (s.failed (member_at g x j))) (lt-ltb j g.d h)
      (ori_listed s.log x j r e)
      ∙ ap not (some_is (s.log.ori x j) r e)

  pub missing-none : (j : ℕ) → j < g.d → s.log.ori x j ≡ none → missing g s x j ≡ s.failed (member_at g x j)
  unfolding choose
  missing-none j h e =
      ap₂ (λ (t u : Bool). choose (t && u) (not (is_some (s.log.ori x j))) (s.failed (member_at g x j))) (lt-ltb j g.d h) (have j h e)

  pub missing-parity : (j : ℕ) → g.d ≤ j → missing g s x j ≡ s.failed (member_at g x j)
  unfolding choose
  missing-parity j h =
      ap (λ (t : Bool). choose (t && listed s.log x j) (not (is_some (s.log.ori x j))) (s.failed (member_at g x j))) (le-ltb j g.d h)

  -- missing is on a failed member, so no three are
  pub missing-failed : (j : ℕ) → missing g s x j ≡ true → s.failed (member_at g x j) ≡ true
  missing-failed j e =
      elim (dec_lt j g.d) [
        | yes h ↦ opt_cases (s.log.ori x j) (λ o. sym (missing-none j h o) ∙ e) (λ r o. clash e (missing-some j r h o))
        | no h ↦ sym (missing-parity j (omega arith)) ∙ e
      ]

  pub few-missing : g.parities ≤ 2 → count (array_members g) s.failed ≤ g.parities → FewMissing g (missing g s x)
  few-missing most two = (
    λ single i j ij jn ei ej.
        no_two_roles (array_members g) s.failed (member_at g x) (one_to_one g.layout g.d g.parities x).within (one_to_one g.layout g.d g.parities x).own (omega (arith, two, single)) i j ij jn
        (missing-failed i ei) (missing-failed j ej),
    λ i j l ij jl ln ei ej el.
        no_three_roles (array_members g) s.failed (member_at g x) (one_to_one g.layout g.d g.parities x).within (one_to_one g.layout g.d g.parities x).own (omega (arith, two, most)) i j l ij jl ln
        (missing-failed i ei) (missing-failed j ej) (missing-failed l el),
  )

module _ (g : Geometry) (Y : InRange g) (s : State) (b : Book) (A : Nearly g s b) (x : ℕ) (hx : x < g.s) where
  -- Where each listed block has an Ori, and each Ori record is its original, parity gives the originals.
  module _ (have : (j : ℕ) → j < g.d → s.log.ori x j ≡ none → listed s.log x j ≡ false)
      (hold : (j r : ℕ) → j < g.d → s.log.ori x j ≡ some r → s.log.value r ≡ A.orig x j) where
    few : FewMissing g (missing g s x)
    few =
        let e : array_members g + 1 ≡ all_members g = omega arith in
        let c : count (array_members g) s.failed ≤ count (all_members g) s.failed =
        subst (λ (z : ℕ). count (array_members g) s.failed ≤ count z s.failed) e (count-more (array_members g) 1 s.failed) in
        few-missing g s x have Y.parities_most (omega (arith, A.few))

    original_data : (j : ℕ) → j < g.d → missing g s x j ≡ false → original g s x j ≡ A.orig x j
    original_data j h e =
        choose_true (ltb j g.d) (or_else (s.log.ori x j) s.log.value (s.disk x j)) (s.parity x (j - g.d))
        (lt-ltb j g.d h)
        ∙ opt_cases (s.log.ori x j)
        (λ o.
        ap (λ (z : Option ℕ). or_else z s.log.value (s.disk x j)) o ∙ A.sound x j hx h (sym (missing-none g s x have j h o) ∙ e)
        ∙ sym (A.noted.plain x j hx h (unlisted s.log x j (have j h o)).1))
        (λ r o. ap (λ (z : Option ℕ). or_else z s.log.value (s.disk x j)) o ∙ hold j r h o)

    original-parity : (j : ℕ) → g.d ≤ j → original g s x j ≡ s.parity x (j - g.d)
    original-parity j h =
        choose_false (ltb j g.d) (or_else (s.log.ori x j) s.log.value (s.disk x j)) (s.parity x (j - g.d))
        (le-ltb j g.d h)

    original_at : (p : ℕ) → p < g.parities → missing g s x (g.d + p) ≡ false → original g s x (g.d + p) ≡ block_parity g p (A.orig x)
    original_at p hp e =
        original-parity (g.d + p) (omega arith) ∙ ap (s.parity x) (let z : g.d + p - g.d ≡ p = omega arith in z)
        ∙ A.parity x p hx hp (sym (missing-parity g s x have (g.d + p) (omega arith)) ∙ e)

    -- a block without Ori on a failed disk
    worked_back_lem : (i : ℕ) → i < g.d → s.log.ori x i ≡ none → s.failed (member_at g x i) ≡ true
        → worked_back g (missing g s x) (original g s x) i ≡ A.orig x i
    worked_back_lem i h o f =
        worked_exact g Y.d_most Y.parities_least (missing g s x) (original g s x) (A.orig x) few (λ j hj. A.origs x j hx hj)
        original_data original_at i h
        (missing-none g s x have i h o ∙ f)

  -- a block that is not withheld
  pub block_exact : (i : ℕ) → i < g.d → withheld g s.failed (listed s.log) x i ≡ false → block_at g s x i ≡ b.held x i
  unfolding block_at
  block_exact i h nw =
      cases (s.failed (member_at g x i)) lost (λ e. choose_false (s.failed (member_at g x i)) _ (s.disk x i) e ∙ A.sound x i hx h e)
    where
      worked : List ℕ
      worked = worked_back g (missing g s x) (original g s x) i

      found : Option ℕ → Option ℕ → List ℕ
      found c o = or_else c s.log.value (or_else o s.log.value worked)

      by_parity : s.log.cur x i ≡ none → s.log.ori x i ≡ none → worked ≡ A.orig x i
          → found (s.log.cur x i) (s.log.ori x i) ≡ b.held x i
      by_parity c o w = ap₂ found c o ∙ w ∙ A.noted.plain x i hx h c

      -- the log has failed: the stripe is not stale
      log_lost : s.failed (member_at g x i) ≡ true → log_failed g s.failed ≡ true → found (s.log.cur x i) (s.log.ori x i) ≡ b.held x i
      log_lost e l =
          let fresh : stale g (listed s.log) x ≡ false = sym (ap₂ (λ (t u : Bool). t && (u && stale g (listed s.log) x)) l e) ∙ nw in
          let un : (j : ℕ) → j < g.d → listed s.log x j ≡ false = any_none g.d (listed s.log x) fresh in
          by_parity (unlisted s.log x i (un i h)).1 (unlisted s.log x i (un i h)).0
          (worked_back_lem (λ j hj _. un j hj) (λ j r hj o. clash (ori_listed s.log x j r o) (un j hj)) i h (unlisted s.log x i (un i h)).0 e)

      -- the log is sound: Cur, else Ori, else parity, which an unlisted block's stripe has originals for
      log-sound : s.failed (member_at g x i) ≡ true → log_failed g s.failed ≡ false → found (s.log.cur x i) (s.log.ori x i) ≡ b.held x i
      log-sound e l =
          opt_cases (s.log.cur x i)
          (λ c.
          opt_cases (s.log.ori x i)
          (λ o.
          by_parity c o
          (worked_back_lem
          (λ j hj oj. cases (listed s.log x j) (λ t. clash (A.whole x j i hx hj h oj t) (none_listed s.log x i o c)) (λ t. t))
          (λ j r hj oj. (A.noted.oris x j hx hj r oj).1 l) i h o e))
          (λ r o. ap₂ found c o ∙ (A.noted.oris x i hx h r o).1 l ∙ A.noted.plain x i hx h c))
          (λ r c. ap (λ (z : Option ℕ). found z (s.log.ori x i)) c ∙ (A.noted.curs x i hx h r c).1 l)

      lost : s.failed (member_at g x i) ≡ true
          → choose (s.failed (member_at g x i)) (found (s.log.cur x i) (s.log.ori x i)) (s.disk x i) ≡ b.held x i
      lost e =
          choose_true (s.failed (member_at g x i)) (found (s.log.cur x i) (s.log.ori x i)) (s.disk x i) e
          ∙ cases (log_failed g s.failed) (log_lost e) (log-sound e)

-- of sound disks a plain read gives what a fetch gives, in any state; and so it does where it is accepted
pub sound_as_fetch : (g : Geometry) (s : State) (a n : ℕ) → ((j : ℕ) → j < n → wanted g (λ x i. s.failed (member_at g x i)) a j ≡ false)
    → read_buffer g s a n ≡ fetch_buffer g s a n
unfolding buffer_of block_at
sound_as_fetch g s a n sound =
    blocks_of-same n g.b (λ j. wanted g s.disk a j) (λ j. wanted g (block_at g s) a j)
    (λ j h. sym (choose_false (wanted g (λ x i. s.failed (member_at g x i)) a j) _ (wanted g s.disk a j) (sound j h)))

pub read_as_fetch : (g : Geometry) (s : State) (a n len : ℕ) → code g (read a n len) s ≡ 0 → read_buffer g s a n ≡ fetch_buffer g s a n
read_as_fetch g s a n len z = sound_as_fetch g s a n (read_passed g s a n len z).1

-- each block that an accepted call hands over
module _ (g : Geometry) (Y : InRange g) (s : State) (b : Book) (A : Nearly g s b) (a n len : ℕ) where
  pub nearly_fetch : code g (fetch a n len) s ≡ 0 → (j : ℕ) → j < n → wanted g (block_at g s) a j ≡ wanted g b.held a j
  nearly_fetch z j h =
      let r = fetch_passed g s a n len z in
      block_exact g Y s b A ((a + j) / g.d) (in_stripe g (positive Y) a n r.0 j h) ((a + j) % g.d) (mod-lt (a + j) (positive Y)) (r.1 j h)

  pub nearly_read : code g (read a n len) s ≡ 0 → (j : ℕ) → j < n → wanted g s.disk a j ≡ wanted g b.held a j
  nearly_read z j h =
      let r = read_passed g s a n len z in
      A.sound ((a + j) / g.d) ((a + j) % g.d) (in_stripe g (positive Y) a n r.0 j h) (mod-lt (a + j) (positive Y)) (r.1 j h)
