-- `shelf::alter::replace_stripe` meets its contract: in their places, or by moving.
-- Assumes nothing.
use mathlib.Core.List.{List}
use mathlib.Core.Path.{◌≡◌, sym, ap, ◌∙◌}
use Prim.Native.Nat.{ℕ, ◌+◌, ◌*◌}
use native.Mathlib.Omega.{arith}
use lib.ListN.{length}
use Rattle.shelf.specs.declared.record.Geometry.{Geometry}
use Rattle.shelf.specs.Words.{words, bytes_of}
use Rattle.shelf.specs.HashList.{entries, encode}
use Rattle.shelf.specs.below.Rewriting.{drop_stripe, merged}
use Rattle.shelf.proofs.hashlist.WordLaws.{bytes-words, length-words}
use Rattle.shelf.proofs.hashlist.OrderLaws.{lists-room}
use Rattle.shelf.proofs.hashlist.InPlaceLaws.{replaced_words, replaced_count}
use Rattle.shelf.proofs.calls.ServedLaws.{address-low}
use borrow.Author.Rules.{rules}
use Rattle.shelf.proofs.alter.replace_stripe.Goals as goal

pub overflow_mul-x : goal.overflow_mul-x
overflow_mul-x c = let st = c in omega (arith, address-low st.args.g.d st.args.g.s st.args.x st.requires.measures.d1 st.requires.measures.s1 st.requires.replaces.there)

pub overflow_mul-x-2 : goal.overflow_mul-x-2
overflow_mul-x-2 c = let st = c in omega (arith, address-low st.args.g.d st.args.g.s st.args.x st.requires.measures.d1 st.requires.measures.s1 st.requires.replaces.there)

pub overflow_add-x : goal.overflow_add-x
overflow_add-x c = let st = c in omega (arith, address-low st.args.g.d st.args.g.s st.args.x st.requires.measures.d1 st.requires.measures.s1 st.requires.replaces.there, st.requires.measures.d1)

pub stand_in-requires-clause-few : goal.stand_in-requires-clause-few
stand_in-requires-clause-few c =
    let st = c in
    let m = st.requires.measures in
    let r = lists-room st.args.list.now st.args.g st.args.n st.requires.measures st.requires.lists in
    omega (arith, st.requires.replaces.room, m.e1)

pub stand_in-requires-clause-n_bound : goal.stand_in-requires-clause-n_bound
stand_in-requires-clause-n_bound c =
    let st = c in
    let m = st.requires.measures in
    let r = lists-room st.args.list.now st.args.g st.args.n st.requires.measures st.requires.lists in
    omega (arith, r, m.e1)

pub stand_in-requires-clause-n_in_bounds : goal.stand_in-requires-clause-n_in_bounds
stand_in-requires-clause-n_in_bounds c =
    let st = c in
    let m = st.requires.measures in
    let r = lists-room st.args.list.now st.args.g st.args.n st.requires.measures st.requires.lists in
    omega (arith, r, m.len)

pub put_places-requires-clause-room : goal.put_places-requires-clause-room
put_places-requires-clause-room c =
    let st = c in
    let r = lists-room st.args.list.now st.args.g st.args.n st.requires.measures st.requires.lists in
    let i = c.stand_in.ensures c.if-stand_in.true in
    omega (arith, r, i.within)

pub returns-then-stand_in : goal.returns-then-stand_in
returns-then-stand_in c =
    let st = c in
    let a = st.args in
    let g : Geometry = a.g in
    let m = st.requires.measures in
    let v = st.requires.lists in
    let w : List ℕ = words a.list.now in
    let f = c.put_places in
    let l : List ℕ = f.new.list in
    let p = c.first_from-p in
    let i = c.stand_in.ensures c.if-stand_in.true in
    let len : length l ≡ 4 * (g.h + 4 * g.e) = search rules in
    let lw = length-words l (g.h + 4 * g.e) len in
    let is : words l ≡ encode g (merged a.fresh.now (drop_stripe g.d a.x (entries w g))) =
    replaced_words w g v.next a.n m.h0 m.d0 m.e1 v.passing (words l) lw f.ensures.links_kept (λ j o. f.ensures.kept_from j (omega (arith, i.within, o)))
    a.x p.result a.fresh.now p.ensures i st.requires.replaces.segment f.ensures.filled in (
      sym (bytes-words l (g.h + 4 * g.e) len (λ j. omega (arith, c.slice_known-then-stand_in-1.given j))) ∙ ap bytes_of is,
      (
        is,
        replaced_count w g v.next a.n m.h0 m.d0 m.e1 v.passing (words l) lw f.ensures.links_kept (λ j o. f.ensures.kept_from j (omega (arith, i.within, o)))
            a.x p.result a.fresh.now p.ensures i st.requires.replaces.segment f.ensures.filled,
      ),
    )
