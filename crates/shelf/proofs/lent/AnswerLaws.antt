-- What an accepted call hands back, as the state that it leaves.
-- Assumes nothing.
use mathlib.Core.List.{List}
use mathlib.Core.Path.{◌≡◌, subst, sym}
use Prim.Native.Nat.{ℕ}
use native.Mathlib.Omega.{arith}
use lib.ListN.{length}
use Rattle.shelf.specs.Lent.{Lent, lent, number_of, told_stripe, Answered}
use Rattle.shelf.specs.below.Refusals.{refusal_number}
use Rattle.shelf.specs.Status.{Call, resync}
use Rattle.shelf.specs.declared.Answer.{Answer}
use Rattle.shelf.specs.declared.Resynced.{Resynced}
use Rattle.shelf.specs.declared.record.Shelf.{Shelf}
use Rattle.shelf.specs.declared.status.Refusal.{Refusal}
use Rattle.shelf.proofs.numbers.CheckRules.{refused_above}
use Rattle.shelf.proofs.lent.LeavesLaws.{refused_answered}

-- the record of the answer is the one that the call's method made
pub accepted_answer : {h : Lent} {c : Call} {a n l : List ℕ} {o : Answer} {r r' : Shelf} → o ≡ record { code = 0; shelf = r } → r ≡ r'
    → Answered h c 0 (lent r' a n l) → Answered h c o.code (lent o.shelf a n l)
accepted_answer {h} {c} {a} {n} {l} e q A =
    subst (λ (x : Answer). Answered h c x.code (lent x.shelf a n l)) (sym e) (subst (λ (s : Shelf). Answered h c 0 (lent s a n l)) (sym q) A)

-- a refused call hands back what is lent
pub refused_answer : {h : Lent} {c : Call} {o : Answer} (x : Refusal) → o ≡ record { code = refusal_number x; shelf = h.shelf }
    → refusal_number x ≡ number_of h.shelf (length h.array) (length h.log) h.list c → Answered h c o.code (lent o.shelf h.array h.log h.list)
refused_answer {h} {c} {o} x e is =
    subst (λ (y : Answer). Answered h c y.code (lent y.shelf h.array h.log h.list)) (sym e)
    (refused_answered h c (refusal_number x) is (λ z. omega (arith, refused_above x, z)))

-- the same of a resync, with the stripe that it tells
pub accepted_resync : {h : Lent} {a n l : List ℕ} {o : Resynced} {r : Shelf} {t : ℕ} → o ≡ record { code = 0; stripe = t; shelf = r }
    → Answered h resync 0 (lent r a n l) × (t ≡ told_stripe h 0) → Answered h resync o.code (lent o.shelf a n l) × (o.stripe ≡ told_stripe h o.code)
accepted_resync {h} {a} {n} {l} e A = subst (λ (y : Resynced). Answered h resync y.code (lent y.shelf a n l) × (y.stripe ≡ told_stripe h y.code)) (sym e) A
