-- `lines::fields::read_into` meets its contract.
-- Assumes nothing.
use mathlib.Core.List.{List}
use mathlib.Core.Path.{sym, ap, ap₂, ◌∙◌}
use Prim.Native.Nat.{ℕ, ◌-◌}
use native.Mathlib.Nat.{sub-zero}
use native.Mathlib.Omega.{arith}
use lib.ListN.{length, take}
use lib.Seq.{take_all}
use borrow.Author.Rules.{rules}
use Rattle.std.specs.Prelude.{Some}
use Rattle.std.proofs.lemmas.List.{take_more_set}
use Rattle.lines.specs.Walking.{values_of}
use Rattle.lines.proofs.FieldLaws.{fields_split}
use Rattle.lines.proofs.LineLaws.{more, left, some_is, none_is, more_start, more_none, more_off, more_on, more_long, more_end, none_left, one_left}
use Rattle.lines.proofs.fields.read_into.Goals as goal

pub loop-value-init : goal.loop-value-init
loop-value-init c =
    let e = c.split-fields.ensures in
    let a = c.args in
    simp (e.rest, e.done, sub-zero) (more_start _ _ ∙ ap (values_of (length a.values.now)) (sym (fields_split a.text.now)))

pub returns-in_err-next : goal.returns-in_err-next
returns-in_err-next c =
    let l = c.loop-value in
    let n = length c.args.values.now - l.value-index in
    rw c.from_residual.ensures (
    sym l.invariant ∙ ap (more (take l.value-index l.values) n) (none_left _ _ _ c.in_err-next.was c.next.ensures.steps) ∙ more_none _ n (omega arith)
    )

pub returns-in_err-value : goal.returns-in_err-value
returns-in_err-value c =
    let l = c.loop-value in
    let n = length c.args.values.now - l.value-index in
    rw c.from_residual-in_err-value.ensures (
    sym l.invariant
    ∙ ap (more (take l.value-index l.values) n) (one_left _ _ _ _ (search rules) c.in_ok-next.was c.next.ensures.steps)
    ∙ more_off _ n _ _ (sym c.value_of.ensures ∙ c.in_err-value.was)
    )

pub loop-value-preserved : goal.loop-value-preserved
loop-value-preserved c =
    let l = c.loop-value in
    let n = length c.args.values.now - l.value-index in
    let v = c.in_ok-value.field-0 in
    ap₂ (λ (vs : List ℕ) (k : ℕ). more vs k (left c.next.new.self.done c.next.new.self.rest.now)) (take_more_set _ _ v (omega arith)) (omega arith)
    ∙ sym (more_on _ n _ _ v (omega arith) (sym c.value_of.ensures ∙ c.in_ok-value.was))
    ∙ ap (more (take l.value-index l.values) n) (sym (one_left _ _ _ _ (search rules) c.in_ok-next.was c.next.ensures.steps))
    ∙ l.invariant

pub returns-then-is_some : goal.returns-then-is_some
returns-then-is_some c =
    let l = c.loop-value in
    let x = some_is _ (sym c.is_some.ensures ∙ c.if-is_some.true) in
    sym l.invariant ∙ ap (λ (k : ℕ). more (take l.value-index l.values) k (left l.fields.done l.fields.rest.now)) (omega arith)
    ∙ ap (more (take l.value-index l.values) 0) (one_left _ _ _ _ (search rules) x.1 c.next-2.ensures.steps)
    ∙ more_long _ _ _

pub returns : goal.returns
returns c =
    let l = c.loop-value in
    let x = none_is _ (sym c.is_some.ensures ∙ c.if-is_some.false) in
    sym l.invariant ∙ ap (λ (k : ℕ). more (take l.value-index l.values) k (left l.fields.done l.fields.rest.now)) (omega arith)
    ∙ ap (more (take l.value-index l.values) 0) (none_left _ _ _ x c.next-2.ensures.steps)
    ∙ more_end _ ∙ ap Some (take_all _ _ (omega arith))
