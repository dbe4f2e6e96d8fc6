-- `shelf::stale::is_stale` meets its contract: the first place from the stripe's first address on tells.
-- Assumes nothing.
use mathlib.Core.List.{List}
use mathlib.Core.Path.{sym, ◌∙◌, subst}
use Prim.Native.Nat.{ℕ, ◌+◌, ◌*◌, ◌≤◌, ◌<◌}
use native.Mathlib.Omega.{arith}
use lib.Dec.{ltb}
use borrow.Author.Tests.{le-ltb, ltb-true, ltb-false}
use Rattle.shelf.specs.Words.{words}
use Rattle.shelf.proofs.general.TestLaws.{cases}
use Rattle.shelf.proofs.hashlist.OrderLaws.{place_within}
use Rattle.shelf.proofs.hashlist.StaleLaws.{stale_there, stale_not}
use Rattle.shelf.proofs.stale.is_stale.Goals as goal

pub returns-else-p-n : goal.returns-else-p-n
returns-else-p-n c =
    let st = c in
    let a = st.args in
    let m = st.requires.measures in
    let v = st.requires.lists in
    let w : List ℕ = words a.list.now in
    let p = c.first_from-p in
    le-ltb _ _ c.if-p-n.false ∙ sym (stale_not w a.g v.next a.n m.h0 m.d0 m.e1 v.passing a.x p.result p.ensures (λ o. absurd (omega (arith, o, c.if-p-n.false))))

pub address-requires : goal.address-requires
address-requires c = let st = c in place_within st.args.list.now st.args.g st.args.n st.requires.measures st.requires.lists c.first_from-p.result c.if-p-n.true

pub returns-then-p-n : goal.returns-then-p-n
returns-then-p-n c =
    let st = c in
    let a = st.args in
    let m = st.requires.measures in
    let v = st.requires.lists in
    let w : List ℕ = words a.list.now in
    let p = c.first_from-p in
    let x = c.address in
    let b : ℕ = a.x * a.g.d + a.g.d in
    cases (ltb x.result b)
    (λ t. t ∙ sym (stale_there w a.g v.next a.n m.h0 m.d0 m.e1 v.passing a.x p.result p.ensures c.if-p-n.true (subst (λ (k : ℕ). k < b) x.ensures (ltb-true x.result b t))))
    (λ t. t ∙ sym (stale_not w a.g v.next a.n m.h0 m.d0 m.e1 v.passing a.x p.result p.ensures (λ _. subst (λ (k : ℕ). b ≤ k) x.ensures (ltb-false x.result b t))))
