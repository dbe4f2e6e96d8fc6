-- `shelf::alter::drop_stripe` meets its contract: the stripe's entries are those from its first address on, below the next stripe's.
-- Assumes nothing.
use mathlib.Core.Path.{◌≡◌, sym, subst}
use Prim.Native.Nat.{ℕ, ◌+◌, ◌*◌, ◌-◌}
use native.Mathlib.Omega.{arith}
use lib.ListN.{length}
use Rattle.shelf.specs.declared.record.Geometry.{Geometry}
use Rattle.shelf.specs.Words.{words}
use Rattle.shelf.specs.HashList.{entries}
use Rattle.shelf.specs.below.Rewriting.{drop_stripe, Rewritten}
use Rattle.shelf.proofs.hashlist.LinkLaws.{none_out, out_rewritten}
use borrow.Author.Rules.{rules}
use Rattle.shelf.proofs.alter.drop_stripe.Goals as goal

pub returns-then-q-p : goal.returns-then-q-p
returns-then-q-p c =
    let st = c in
    let a = st.args in
    let g : Geometry = a.g in
    let m = st.requires.measures in
    let v = st.requires.lists in
    let p = c.first_from-p in
    let q = c.first_from-q in
    let z : a.n ≡ a.n - (q.result - p.result) = omega (arith, c.if-q-p.true) in
    subst (λ (k : ℕ). Rewritten g (drop_stripe g.d a.x (entries (words a.list.now) g)) a.list.now k) (sym z)
    (out_rewritten (words a.list.now) g v.next a.n m.h0 m.d0 m.e1 v.passing a.x p.result q.result p.ensures q.ensures a.list.now
    (none_out (words a.list.now) g v.next a.n m.h0 m.d0 m.e1 v.passing a.x p.result q.result p.ensures q.ensures c.if-q-p.true) m.len (λ i. omega (arith, c.slice_known-1.given i)))

pub returns : goal.returns
returns c =
    let st = c in
    let a = st.args in
    let g : Geometry = a.g in
    let m = st.requires.measures in
    let v = st.requires.lists in
    let p = c.first_from-p in
    let q = c.first_from-q in
    let r = c.take_out in
    let len : length r.new.list ≡ 4 * (g.h + 4 * g.e) = search rules in
    out_rewritten (words a.list.now) g v.next a.n m.h0 m.d0 m.e1 v.passing a.x p.result q.result p.ensures q.ensures r.new.list r.ensures len (λ i. omega (arith, c.slice_known-2-1.given i))
