-- `shelf::list::links_up` meets its contract.
-- Assumes nothing.
use mathlib.Core.Path.{sym, ◌∙◌}
use Prim.Native.Nat.{◌<◌}
use native.Mathlib.Omega.{arith}
use Rattle.shelf.proofs.hashlist.SlotLaws.{slot_is, slot_below, slot_above}
use borrow.Author.Tests.{ltb-true, ltb-false, leb-true}
use Rattle.shelf.specs.Words.{words}
use Rattle.shelf.proofs.hashlist.PlaceLaws.{links_other, links_by}
use Rattle.shelf.proofs.list.links_up.Goals as goal
use Rattle.shelf.proofs.list.links_up.Goals.{then-from-f, else-from-f}

pub returns-then-f-from : goal.returns-then-f-from
returns-then-f-from c =
    let a = c.args in
    let m = c.requires in
    let x = c.address in
    let low : x.result < 1048576 = rw x.ensures m.p_bound in
    elim c.if-from-f.branch [
      | then-from-f z ↦
          (let o = ltb-true _ _ (sym z.value-is ∙ c.if-f-from.true) in
          sym (links_by (words a.list.now) a.h a.i a.p x.result x.ensures
          (slot_is a.h a.share (omega (arith, m.i_lt_h)) m.has_place.0 m.share_value x.result low a.i z.if-from-f.true o) c.next.result c.next.ensures))
      | else-from-f z ↦ absurd (omega (arith, z.if-from-f.false, leb-true _ _ (sym z.value-is ∙ c.if-f-from.true)))
    ]

pub returns-else-f-from : goal.returns-else-f-from
returns-else-f-from c =
    let a = c.args in
    let m = c.requires in
    let x = c.address in
    let low : x.result < 1048576 = rw x.ensures m.p_bound in
    let h0 : 0 < a.h = omega (arith, m.i_lt_h) in
    c.if-f-from.false
    ∙ sym (links_other (words a.list.now) a.h a.i a.p x.result x.ensures
    (elim c.if-from-f.branch [
      | then-from-f z ↦ slot_above a.h a.share h0 m.has_place.0 m.share_value x.result low a.i (ltb-false _ _ (sym z.value-is ∙ c.if-f-from.false))
      | else-from-f z ↦ slot_below a.h a.share h0 m.has_place.0 m.share_value x.result low a.i (omega (arith, z.if-from-f.false))
    ]))
