-- `shelf::moves::stand_in` meets its contract.
-- Assumes nothing.
use mathlib.Core.Bool.{Bool, true}
use mathlib.Core.List.{List, [], ◌∷◌}
use mathlib.Core.Path.{◌≡◌, sym, ap, ◌∙◌, subst}
use Prim.Native.Nat.{ℕ, zero, suc, ◌+◌, ◌≤◌, ◌<◌}
use native.Mathlib.Omega.{arith}
use lib.Dec.{eqb}
use lib.ListN.{length}
use borrow.Author.Tests.{eqb-true, leb-true}
use Rattle.shelf.specs.Words.{words}
use Rattle.shelf.specs.HashList.{Entry, address_at}
use Rattle.shelf.specs.below.Rewriting.{nth}
use Rattle.std.specs.List.{list_all, enumerate_from}
use Rattle.shelf.proofs.general.TestLaws.{and_left, and_right}
use Rattle.shelf.proofs.moves.stand_in.Goals as goal
use Rattle.shelf.proofs.moves.stand_in.Goals.{then-q-n+then-q-n-2, then-q-n+else-q-n-2, else-q-n}

-- each of some entries passes, with its number k, from a on
numbered-each : (f : ℕ × Entry → Bool) (a : ℕ) (ys : List Entry) → list_all f (enumerate_from a ys) ≡ true → (j : ℕ) → j < length ys → (k : ℕ) → k ≡ a + j
    → f (k, nth ys j) ≡ true
numbered-each f a [] t j o k e = absurd (omega arith)
numbered-each f a (y ∷ ys) t zero o k e =
    let z : k ≡ a = omega arith in ap (λ (n : ℕ). f (n, y)) z ∙ and_left (f (a, y)) (list_all f (enumerate_from (a + 1) ys)) t
numbered-each f a (y ∷ ys) t (suc j) o k e =
    numbered-each f (a + 1) ys (and_right (f (a, y)) (list_all f (enumerate_from (a + 1) ys)) t) j (omega arith) k (omega arith)

pub returns-then-address-end : goal.returns-then-address-end
returns-then-address-end c =
    let a = c.args in
    let within : a.p + length a.fresh.now ≤ a.n =
    elim c.if-q-n.branch [
      | then-q-n+then-q-n-2 z ↦ z.if-q-n.true
      | then-q-n+else-q-n-2 z ↦ z.if-q-n.true
      | else-q-n z ↦ absurd (omega (arith, z.if-q-n.false, leb-true _ _ (sym z.value-is ∙ c.if-address-end.true)))
    ] in
    let behind : a.p + length a.fresh.now < a.n → a.end ≤ address_at (words a.list.now) a.h (a.p + length a.fresh.now) =
    elim c.if-q-n.branch [
      | then-q-n+then-q-n-2 z ↦ (λ o. absurd (omega (arith, o, z.if-q-n-2.true)))
      | then-q-n+else-q-n-2 z ↦ (λ o. subst (λ (k : ℕ). a.end ≤ k) z.address.ensures (leb-true _ _ (sym z.value-is ∙ c.if-address-end.true)))
      | else-q-n z ↦ absurd (omega (arith, z.if-q-n.false, leb-true _ _ (sym z.value-is ∙ c.if-address-end.true)))
    ] in
    λ e. record {
      within = within;
      behind = behind;
      here = λ j o. eqb-true _ _ (numbered-each (λ (x : ℕ × Entry). eqb (address_at (words a.list.now) a.h (a.p + x.0)) x.1.address) 0 a.fresh.now
          (sym c.have_addresses.ensures ∙ e) j o j (omega arith));
    }
