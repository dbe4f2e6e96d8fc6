-- `shelf::shelf_rebuild` meets its contract.
-- Assumes nothing.
use mathlib.Core.Path.{refl}
use native.Mathlib.Omega.{arith}
use Rattle.shelf.proofs.lent.AnswerLaws.{accepted_answer}
use Rattle.shelf.proofs.calls.RebuildLaws.{rebuild_asks, settle_asks, rebuild_answered}
use Rattle.shelf.proofs.shelf_rebuild.Goals as goal

pub rebuild_array-requires : goal.rebuild_array-requires
rebuild_array-requires c =
    let a = c.args in
    rebuild_asks a.shelf a.array.now a.log.now a.list.now c.in_default.ensures

pub settle-requires : goal.settle-requires
settle-requires c =
    let a = c.args in
    let whole = settle_asks a.shelf a.array.now a.log.now a.list.now c.in_default.ensures in
    record { sized = whole.0; measures = whole.1.0; lists = whole.1.1 }

pub returns : goal.returns
returns c =
    let a = c.args in
    let all = c.rebuild_array in
    let end = c.settle in
    accepted_answer c.accepted.ensures refl
    (rebuild_answered a.shelf a.array.now a.log.now a.list.now c.in_default.ensures
    end.result.listed end.new.list end.ensures.rewritten (λ i. omega (arith, c.type_inv.list i)) end.result all.new.array all.ensures end.ensures.value)
