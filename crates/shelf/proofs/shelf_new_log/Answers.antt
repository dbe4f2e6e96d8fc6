-- `shelf::shelf_new_log` meets its contract.
-- Assumes nothing.
use mathlib.Core.Path.{ap, ◌∙◌, ◌≡◌, refl, subst, sym}
use lib.ListN.{length}
use Rattle.shelf.specs.Lent.{state_of, tries_list}
use Rattle.shelf.specs.Members.{log_member}
use Rattle.shelf.specs.Calls.{work}
use native.Mathlib.Omega.{arith}
use Prim.Native.Nat.{ℕ, ◌<◌}
use Rattle.shelf.specs.Status.{new_log}
use Rattle.shelf.specs.below.Records.{with_renewed}
use Rattle.shelf.proofs.numbers.CodeLaws.{new-log_bounds}
use Rattle.shelf.proofs.lent.AnswerLaws.{accepted_answer}
use Rattle.shelf.proofs.lent.LeavesLaws.{renewed_answered}
use borrow.Author.Rules.{rules}
use Rattle.shelf.proofs.shelf_new_log.Goals as goal

pub log_member-requires : goal.log_member-requires
log_member-requires c =
    let a = c.args in
    let most = new-log_bounds a.shelf (length a.array.now) (length a.log.now) a.list.now c.in_default.ensures in
    most.0

pub renew-requires : goal.renew-requires
renew-requires c =
    let a = c.args in
    subst (λ (n : ℕ). n < 19) (sym c.log_member.ensures) (new-log_bounds a.shelf (length a.array.now) (length a.log.now) a.list.now c.in_default.ensures).1

pub returns : goal.returns
unfolding work state_of tries_list
returns c =
    let a = c.args in
    let long : length a.shelf.failed ≡ 19 = search rules in
    accepted_answer c.accepted.ensures (c.renew.ensures ∙ ap (with_renewed a.shelf) c.log_member.ensures)
    (renewed_answered a.shelf a.array.now a.log.now a.list.now long (λ i. omega (arith, c.type_inv.list i)) new_log (log_member a.shelf.geometry)
    (new-log_bounds a.shelf (length a.array.now) (length a.log.now) a.list.now c.in_default.ensures).1 refl refl c.in_default.ensures)
