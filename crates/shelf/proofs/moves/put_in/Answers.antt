-- `shelf::moves::put_in` meets its contract.
-- Assumes nothing.
use mathlib.Core.Path.{◌≡◌}
use Prim.Native.Nat.{◌+◌, ◌*◌}
use lib.ListN.{length}
use Rattle.shelf.specs.declared.record.Geometry.{Geometry}
use Rattle.shelf.specs.Words.{words}
use Rattle.shelf.proofs.hashlist.WordLaws.{length-words}
use Rattle.shelf.proofs.hashlist.LinkLaws.{put_in}
use borrow.Author.Rules.{rules}
use Rattle.shelf.proofs.moves.put_in.Goals as goal

pub returns : goal.returns
returns c =
    let st = c in
    let a = st.args in
    let g : Geometry = a.g in
    let m = st.requires.measures in
    let v = st.requires.lists in
    let room = st.requires.room in
    let r = st.requires.replaces in
    let p = c.first_from-p in
    let gap = c.make_gap in
    let put = c.put_places in
    let linked = c.link_gap in
    let len : length linked.new.list ≡ 4 * (g.h + 4 * g.e) = search rules in
    put_in (words a.list.now) g v.next a.m m.h0 m.d0 m.e1 v.passing a.x p.result a.fresh.now st.requires.none_there room p.ensures r.segment
    (words gap.new.list) (words put.new.list) (words linked.new.list) (length-words linked.new.list (g.h + 4 * g.e) len) gap.ensures put.ensures.filled
    put.ensures.kept_from put.ensures.links_kept linked.ensures
