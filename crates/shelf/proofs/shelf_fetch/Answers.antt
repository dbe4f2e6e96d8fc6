-- `shelf::shelf_fetch` meets its contract.
-- Assumes nothing.
use mathlib.Core.Path.{◌≡◌, refl, sym}
use native.Mathlib.Omega.{arith}
use lib.ListN.{length}
use Rattle.shelf.specs.Lent.{tries_list, number_of}
use Rattle.shelf.specs.Status.{fetch, code_of}
use Rattle.shelf.specs.Calls.{work}
use Rattle.shelf.proofs.lent.AnswerLaws.{accepted_answer}
use Rattle.shelf.proofs.lent.LeavesLaws.{kept_answered}
use Rattle.shelf.proofs.calls.ServedLaws.{blocks-ready}
use borrow.Author.Rules.{rules}
use Rattle.shelf.proofs.shelf_fetch.Goals as goal

pub fetch_blocks-requires : goal.fetch_blocks-requires
unfolding number_of tries_list code_of
fetch_blocks-requires c =
    let a = c.args in
    let y = blocks-ready a.shelf a.array.now a.log.now a.list.now a.address a.count (length a.out.now) _ (sym c.in_default.ensures) in
    record { ready = y.0; n_bound = y.1.0; out_len = y.1.1 }

pub returns-clause-answered : goal.returns-clause-answered
unfolding work tries_list
returns-clause-answered c =
    let a = c.args in
    let long : length a.shelf.failed ≡ 19 = search rules in
    accepted_answer c.accepted.ensures refl
    (kept_answered a.shelf a.array.now a.log.now a.list.now long (λ i. omega (arith, c.type_inv.list i)) (fetch a.address a.count (length a.out.now)) refl refl c.in_default.ensures)
