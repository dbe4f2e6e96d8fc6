-- `shelf::status::fetch_withheld` meets its contract. The loop's invariant: no block from the j-th on is withheld.
-- Assumes nothing.
use mathlib.Core.Path.{sym, ◌∙◌}
use native.Mathlib.Omega.{arith}
use Rattle.shelf.specs.Members.{wanted}
use Rattle.shelf.specs.Lent.{flag_at, listed_by}
use Rattle.shelf.specs.Status.{withheld}
use Rattle.shelf.proofs.general.WalkLaws.{any_zero, walk_hit, walk_miss}
use Rattle.shelf.proofs.status.fetch_withheld.Goals as goal

pub returns-then-withheld : goal.returns-then-withheld
returns-then-withheld c =
    let a = c.args in
    let r = a.shelf in
    let at = c.loop-j in
    walk_hit (wanted r.geometry (withheld r.geometry (flag_at r) (listed_by r.geometry a.list.now)) a.a) at.j c.withheld.result c.withheld.ensures (omega arith) c.if-withheld.true ∙ at.invariant

pub loop-j-preserved : goal.loop-j-preserved
loop-j-preserved c =
    let a = c.args in
    let r = a.shelf in
    let at = c.loop-j in
    walk_miss (wanted r.geometry (withheld r.geometry (flag_at r) (listed_by r.geometry a.list.now)) a.a) at.j c.withheld.result c.withheld.ensures (omega arith) c.if-withheld.false ∙ at.invariant

pub returns : goal.returns
returns c =
    let a = c.args in
    let r = a.shelf in
    let at = c.loop-j in
    sym (sym at.invariant ∙ any_zero at.j (wanted r.geometry (withheld r.geometry (flag_at r) (listed_by r.geometry a.list.now)) a.a) (omega arith))
