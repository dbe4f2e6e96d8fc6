-- `shelf::links::scan_below` meets its contract. The loop's invariant: no place from q on, below p, is of the slot.
-- Assumes nothing.
use mathlib.Core.Path.{◌≡◌, sym, ap, ◌∙◌}
use Prim.Native.Nat.{ℕ, ◌+◌, ◌-◌, ◌%◌}
use native.Mathlib.Decide.{ℕ_discrete}
use native.Mathlib.Omega.{arith}
use Rattle.shelf.proofs.hashlist.LinkLaws.{last_scanned}
use Rattle.shelf.specs.Words.{words}
use Rattle.shelf.specs.HashList.{address_at}
use Rattle.shelf.proofs.links.scan_below.Goals as goal

pub returns-then-address-h : goal.returns-then-address-h
returns-then-address-h c =
    let a = c.args in
    let q : ℕ = c.loop-q.q in
    let one : q - 1 + 1 - 1 ≡ q - 1 = omega arith in
    last_scanned a.h a.p a.s (words a.list.now) (q - 1 + 1) (omega arith)
    (λ o. ap (λ (k : ℕ). address_at (words a.list.now) a.h k % a.h) one ∙ ap (λ (k : ℕ). k % a.h) (sym c.address.ensures) ∙ c.if-address-h.true)
    (λ r i j. c.loop-q.invariant r (omega arith) j)

pub loop-q-preserved : goal.loop-q-preserved
loop-q-preserved c =
    let a = c.args in
    λ r o l. elim (ℕ_discrete r (c.loop-q.q - 1)) [
      | yes z ↦ λ e. c.if-address-h.false (ap (λ (k : ℕ). k % a.h) c.address.ensures ∙ ap (λ (k : ℕ). address_at (words a.list.now) a.h k % a.h) (sym z) ∙ e)
      | no z ↦ c.loop-q.invariant r (omega arith) l
    ]

pub returns : goal.returns
returns c =
    let a = c.args in
    last_scanned a.h a.p a.s (words a.list.now) 0 (omega arith) (λ o. absurd (omega arith)) (λ r i j. c.loop-q.invariant r (omega arith) j)
