-- `shelf::moves::relink` meets its contract. The loop's invariant: the places from p on are linked, those below hold what they held.
-- Assumes nothing.
use Prim.Native.Nat.{◌+◌, ◌*◌}
use native.Mathlib.Omega.{arith}
use Rattle.shelf.specs.Words.{words}
use Rattle.shelf.specs.declared.record.Geometry.{Geometry}
use Rattle.shelf.proofs.hashlist.WordLaws.{length-words}
use Rattle.shelf.proofs.hashlist.FillLaws.{linked_start, blank-kept, linked_turn, linked_done}
use Rattle.shelf.proofs.moves.relink.Goals as goal

pub loop-p-init : goal.loop-p-init
loop-p-init c =
    let a = c.args in
    let g : Geometry = a.g in
    let m = c.requires in
    linked_start (words a.list.now) (words c.fill_from.new.list) (words c.fill_from-2.new.list) g.h g.e a.m a.n m.m_le_e
    (length-words a.list.now (g.h + 4 * g.e) m.measures.len) m.none_behind c.fill_from.ensures c.fill_from-2.ensures

pub loop-p-preserved : goal.loop-p-preserved
loop-p-preserved c =
    let a = c.args in
    let g : Geometry = a.g in
    let at = c.loop-p in
    linked_turn (words c.fill_from-2.new.list) (words at.list) (words c.link.new.list) g.h g.e a.m at.p c.requires.measures.h0
    (omega arith) (omega arith) c.requires.m_le_e c.link.ensures at.invariant

pub returns : goal.returns
returns c =
    let a = c.args in
    let g : Geometry = a.g in
    let m = c.requires in
    let at = c.loop-p in
    let rest = c.fill_from-2 in
    linked_done (words rest.new.list) (words at.list) g a.m at.p (omega arith) m.m_le_e at.invariant (words a.list.now)
    (blank-kept (words a.list.now) (words c.fill_from.new.list) (words rest.new.list) g.h g.e a.m a.n m.m_le_e
    (length-words a.list.now (g.h + 4 * g.e) m.measures.len) m.none_behind c.fill_from.ensures rest.ensures)
