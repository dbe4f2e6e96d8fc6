-- `shelf::shelf_put_back` meets its contract.
-- Assumes nothing.
use mathlib.Core.Path.{◌≡◌, refl}
use native.Mathlib.Omega.{arith}
use lib.ListN.{length}
use Rattle.shelf.specs.Lent.{state_of, tries_list}
use Rattle.shelf.specs.Calls.{work}
use Rattle.shelf.specs.Status.{put_back}
use Rattle.shelf.proofs.numbers.CodeLaws.{put-back_bounds}
use Rattle.shelf.proofs.lent.AnswerLaws.{accepted_answer}
use Rattle.shelf.proofs.lent.LeavesLaws.{renewed_answered}
use borrow.Author.Rules.{rules}
use Rattle.shelf.proofs.shelf_put_back.Goals as goal

pub renew-requires : goal.renew-requires
renew-requires c =
    let a = c.args in
    (put-back_bounds a.shelf (length a.array.now) (length a.log.now) a.list.now a.member c.in_default.ensures).0

pub returns : goal.returns
unfolding work state_of tries_list
returns c =
    let a = c.args in
    let long : length a.shelf.failed ≡ 19 = search rules in
    accepted_answer c.accepted.ensures c.renew.ensures
    (renewed_answered a.shelf a.array.now a.log.now a.list.now long (λ i. omega (arith, c.type_inv.list i)) (put_back a.member) a.member
    (put-back_bounds a.shelf (length a.array.now) (length a.log.now) a.list.now a.member c.in_default.ensures).0 refl refl c.in_default.ensures)
