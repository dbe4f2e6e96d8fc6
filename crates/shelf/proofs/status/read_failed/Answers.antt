-- `shelf::status::read_failed` meets its contract. The loop's invariant: no block from the j-th on is on a failed disk.
-- Assumes nothing.
use mathlib.Core.Path.{sym, ◌∙◌}
use native.Mathlib.Omega.{arith}
use Rattle.shelf.specs.Members.{wanted}
use Rattle.shelf.specs.below.Records.{failed_role}
use Rattle.shelf.proofs.general.WalkLaws.{any_zero, walk_hit, walk_miss}
use Rattle.shelf.proofs.status.read_failed.Goals as goal

pub returns-then-role_failed : goal.returns-then-role_failed
returns-then-role_failed c =
    let a = c.args in
    let at = c.loop-j in
    walk_hit (wanted a.shelf.geometry (failed_role a.shelf) a.a) at.j c.role_failed.result c.role_failed.ensures (omega arith) c.if-role_failed.true ∙ at.invariant

pub loop-j-preserved : goal.loop-j-preserved
loop-j-preserved c =
    let a = c.args in
    let at = c.loop-j in
    walk_miss (wanted a.shelf.geometry (failed_role a.shelf) a.a) at.j c.role_failed.result c.role_failed.ensures (omega arith) c.if-role_failed.false ∙ at.invariant

pub returns : goal.returns
returns c =
    let a = c.args in
    let at = c.loop-j in
    sym (sym at.invariant ∙ any_zero at.j (wanted a.shelf.geometry (failed_role a.shelf) a.a) (omega arith))
