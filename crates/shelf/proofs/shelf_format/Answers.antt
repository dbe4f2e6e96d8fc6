-- `shelf::shelf_format` meets its contract: a refusal leaves what is lent, and the fresh shelf is made piece by piece.
-- Assumes nothing.
use mathlib.Core.Path.{◌≡◌, ◌∙◌, ap, sym}
use native.Mathlib.Omega.{arith}
use Rattle.shelf.specs.Lent.{lent}
use Rattle.shelf.specs.declared.Answer.{Answer}
use Rattle.shelf.proofs.lent.FormatLaws.{format_left, format_refused}
use Rattle.shelf.proofs.numbers.CheckRules.{refused_above}
use Rattle.shelf.proofs.shelf_format.Goals as goal

pub returns-in-Err-clause-list_after : goal.returns-in-Err-clause-list_after
returns-in-Err-clause-list_after c =
    let a = c.args in
    let kept : c.refused.result.shelf ≡ a.shelf = ap (λ (o : Answer). o.shelf) c.refused.ensures in
    ap (λ r. lent r a.array.now a.log.now a.list.now) kept
    ∙ format_refused (lent a.shelf a.array.now a.log.now a.list.now) (λ z. omega (arith, refused_above c.in-Err.refusal, c.in-Err.ensures, z))

pub returns-clause-list_after : goal.returns-clause-list_after
returns-clause-list_after c =
    let a = c.args in
    let made : c.accepted.result.shelf ≡ c.fresh.result = ap (λ (o : Answer). o.shelf) c.accepted.ensures in
    format_left a.shelf a.array.now a.log.now a.list.now c.accepted.result.shelf c.fill.new.self c.fill-2.new.self
    c.fill-3.new.self (sym c.in_default.ensures) (made ∙ c.fresh.ensures) (c.fill.ensures.after (λ y e. e)) (c.fill-2.ensures.after (λ y e. e)) (c.fill-3.ensures.after (λ y e. e))
