-- `lines::fields::value_of` meets its contract.
-- Assumes nothing.
use mathlib.Core.Path.{sym, ◌∙◌}
use native.Mathlib.Omega.{arith}
use borrow.Author.Tests.{eqb-true}
use Rattle.std.proofs.lemmas.Grind.{common_steps}
use Rattle.lines.proofs.FieldLaws.{value_empty, value-start, value_on, value_off, value_large, value_end, ascii_digit}
use Rattle.lines.proofs.fields.value_of.Goals as goal

pub returns-then-is_empty : goal.returns-then-is_empty
returns-then-is_empty c = sym (value_empty _ (eqb-true _ _ (sym c.is_empty.ensures ∙ c.if-is_empty.true)))

pub loop-x-init : goal.loop-x-init
loop-x-init c = (omega arith, value-start _ (let e = sym c.is_empty.ensures ∙ c.if-is_empty.false in grind (arith, common_steps)))

pub returns-then-not-is_ascii_digit : goal.returns-then-not-is_ascii_digit
returns-then-not-is_ascii_digit c =
    let l = c.loop-x in
    sym (sym l.invariant.1 ∙ value_off _ l.value l.x-index (omega arith) (sym (ascii_digit _) ∙ sym c.is_ascii_digit.ensures.value ∙ c.if-not-is_ascii_digit.true))

pub returns-then-value-ge-LIMIT : goal.returns-then-value-ge-LIMIT
returns-then-value-ge-LIMIT c =
    let l = c.loop-x in
    let d = sym (ascii_digit _) ∙ sym c.is_ascii_digit.ensures.value ∙ c.if-not-is_ascii_digit.false in
    sym (sym l.invariant.1 ∙ sym (value_on _ l.value l.x-index (omega arith) d) ∙ value_large _ _ c.if-value-ge-LIMIT.true)

pub loop-x-preserved : goal.loop-x-preserved
loop-x-preserved c =
    let l = c.loop-x in
    let d = sym (ascii_digit _) ∙ sym c.is_ascii_digit.ensures.value ∙ c.if-not-is_ascii_digit.false in
    (omega arith, value_on _ l.value l.x-index (omega arith) d ∙ l.invariant.1)

pub returns : goal.returns
returns c = sym (sym c.loop-x.invariant.1 ∙ value_end _ c.loop-x.value c.loop-x.x-index (omega arith) (omega arith))
