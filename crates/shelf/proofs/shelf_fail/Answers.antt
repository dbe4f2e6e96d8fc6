-- `shelf::shelf_fail` meets its contract.
-- Assumes nothing.
use mathlib.Core.Path.{◌≡◌}
use native.Mathlib.Omega.{arith}
use lib.ListN.{length}
use Rattle.shelf.proofs.numbers.CodeLaws.{fail_bounds}
use Rattle.shelf.proofs.lent.AnswerLaws.{accepted_answer}
use Rattle.shelf.proofs.lent.LeavesLaws.{fail_answered}
use borrow.Author.Rules.{rules}
use Rattle.shelf.proofs.shelf_fail.Goals as goal

pub fail-requires-clause-sized : goal.fail-requires-clause-sized
fail-requires-clause-sized c =
    let a = c.args in
    let whole = fail_bounds a.shelf (length a.array.now) (length a.log.now) a.list.now a.member c.in_default.ensures in
    whole.0

pub fail-requires-clause-j_bound : goal.fail-requires-clause-j_bound
fail-requires-clause-j_bound c =
    let a = c.args in
    let whole = fail_bounds a.shelf (length a.array.now) (length a.log.now) a.list.now a.member c.in_default.ensures in
    whole.1

pub returns : goal.returns
returns c =
    let a = c.args in
    let long : length a.shelf.failed ≡ 19 = search rules in
    accepted_answer c.accepted.ensures c.fail.ensures
    (fail_answered a.shelf a.array.now a.log.now a.list.now long (λ i. omega (arith, c.type_inv.list i)) a.member (fail_bounds a.shelf (length a.array.now) (length a.log.now) a.list.now a.member c.in_default.ensures).1 c.in_default.ensures)
