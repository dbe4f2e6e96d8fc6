-- `shelf::entries::said_from` meets its contract: what stands in the place is what the list says, or the address is not listed.
-- Assumes nothing.
use mathlib.Core.Logic.{◌≢◌}
use mathlib.Core.Path.{◌≡◌, sym, ap, ◌∙◌}
use Prim.Native.Nat.{◌<◌}
use native.Mathlib.Omega.{arith}
use Rattle.shelf.specs.Words.{words}
use Rattle.shelf.specs.HashList.{Entry, address_at}
use Rattle.shelf.specs.Lent.{record_at}
use Rattle.shelf.proofs.hashlist.ListMarks.{none_record}
use Rattle.shelf.proofs.hashlist.OrderLaws.{place_within, said_here, said_nowhere, first_past, first_stays}
use Rattle.shelf.proofs.entries.said_from.Goals as goal
use Rattle.shelf.proofs.entries.said_from.Goals.{else-p-n-via-then-p-n+else-address-a, else-p-n-via-else-p-n}

pub address-requires : goal.address-requires
address-requires c = place_within c.args.list.now c.args.g c.args.n c.requires.measures c.requires.lists c.args.p c.if-p-n.true

pub ori-requires : goal.ori-requires
ori-requires c = place_within c.args.list.now c.args.g c.args.n c.requires.measures c.requires.lists c.args.p c.if-p-n.true

pub cur-requires : goal.cur-requires
cur-requires c = place_within c.args.list.now c.args.g c.args.n c.requires.measures c.requires.lists c.args.p c.if-p-n.true

pub returns-then-address-a-clause-said : goal.returns-then-address-a-clause-said
returns-then-address-a-clause-said c =
    let a = c.args in
    let m = c.requires.measures in
    let v = c.requires.lists in
    let hit : address_at (words a.list.now) a.g.h a.p ≡ a.a = sym c.address.ensures ∙ c.if-address-a.true in
    let is = said_here (words a.list.now) a.g v.next a.n m.h0 m.d0 m.e1 v.passing a.a a.p c.requires.first_from c.if-p-n.true hit in
    let o = c.record_at-ori.ensures ∙ ap record_at (c.ori.ensures ∙ sym (ap (λ (x : Entry). x.ori) is)) in
    let u = c.record_at-cur.ensures ∙ ap record_at (c.cur.ensures ∙ sym (ap (λ (x : Entry). x.cur) is)) in
    (λ i. record { ori = o i; cur = u i })

pub returns-then-address-a-clause-behind : goal.returns-then-address-a-clause-behind
returns-then-address-a-clause-behind c =
    let a = c.args in
    let m = c.requires.measures in
    let v = c.requires.lists in
    let hit : address_at (words a.list.now) a.g.h a.p ≡ a.a = sym c.address.ensures ∙ c.if-address-a.true in
    first_past (words a.list.now) a.g v.next a.n m.h0 m.d0 m.e1 v.passing a.a a.p c.requires.first_from c.if-p-n.true hit

pub returns-clause-said : goal.returns-clause-said
returns-clause-said c =
    let a = c.args in
    let m = c.requires.measures in
    let v = c.requires.lists in
    let ne : a.p < a.n → address_at (words a.list.now) a.g.h a.p ≢ a.a =
    elim c.else-p-n.branch [
      | else-p-n-via-then-p-n+else-address-a w ↦ λ o e. w.if-address-a.false (w.address.ensures ∙ e)
      | else-p-n-via-else-p-n w ↦ λ o. absurd (omega (arith, o, w.if-p-n.false))
    ] in
    let is = said_nowhere (words a.list.now) a.g v.next a.n m.h0 m.d0 m.e1 v.passing a.a a.p c.requires.first_from ne in
    let o = c.default.ensures.0 ∙ sym (ap (λ (x : Entry). record_at x.ori) is ∙ none_record) in
    let u = c.default.ensures.1 ∙ sym (ap (λ (x : Entry). record_at x.cur) is ∙ none_record) in
    (λ i. record { ori = o i; cur = u i })

pub returns-clause-behind : goal.returns-clause-behind
returns-clause-behind c =
    let a = c.args in
    let m = c.requires.measures in
    let v = c.requires.lists in
    let ne : a.p < a.n → address_at (words a.list.now) a.g.h a.p ≢ a.a =
    elim c.else-p-n.branch [
      | else-p-n-via-then-p-n+else-address-a w ↦ λ o e. w.if-address-a.false (w.address.ensures ∙ e)
      | else-p-n-via-else-p-n w ↦ λ o. absurd (omega (arith, o, w.if-p-n.false))
    ] in
    first_stays (words a.list.now) a.g v.next a.n m.h0 m.d0 m.e1 v.passing a.a a.p c.requires.first_from ne
