-- `shelf::shelf_start` meets its contract.
-- Assumes nothing.
use mathlib.Core.Path.{◌≡◌}
use native.Mathlib.Omega.{arith}
use lib.ListN.{length}
use Rattle.shelf.proofs.lent.AnswerLaws.{accepted_answer}
use Rattle.shelf.proofs.lent.LeavesLaws.{start_answered}
use borrow.Author.Rules.{rules}
use Rattle.shelf.proofs.shelf_start.Goals as goal

pub returns : goal.returns
returns c =
    let a = c.args in
    let long : length a.shelf.failed ≡ 19 = search rules in
    accepted_answer c.accepted.ensures c.start.ensures
    (start_answered a.shelf a.array.now a.log.now a.list.now long (λ i. omega (arith, c.type_inv.list i)) c.in_default.ensures)
