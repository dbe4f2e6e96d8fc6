-- `shelf::status::data_withheld` meets its contract. The loop's invariant: in no stripe from the x-th on is a block withheld.
-- Assumes nothing.
use mathlib.Core.Path.{sym, ◌∙◌}
use native.Mathlib.Omega.{arith}
use Rattle.shelf.specs.below.Rebuilding.{withheld_at}
use Rattle.shelf.proofs.general.WalkLaws.{any_zero, walk_hit, walk_miss}
use Rattle.shelf.proofs.status.data_withheld.Goals as goal

pub returns-then-withheld_at : goal.returns-then-withheld_at
returns-then-withheld_at c =
    let a = c.args in
    let at = c.loop-x in
    walk_hit (withheld_at a.shelf a.list.now) at.x c.withheld_at.result c.withheld_at.ensures (omega arith) c.if-withheld_at.true ∙ at.invariant

pub loop-x-preserved : goal.loop-x-preserved
loop-x-preserved c =
    let a = c.args in
    let at = c.loop-x in
    walk_miss (withheld_at a.shelf a.list.now) at.x c.withheld_at.result c.withheld_at.ensures (omega arith) c.if-withheld_at.false ∙ at.invariant

pub returns : goal.returns
returns c =
    let at = c.loop-x in
    sym (sym at.invariant ∙ any_zero at.x (withheld_at c.args.shelf c.args.list.now) (omega arith))
