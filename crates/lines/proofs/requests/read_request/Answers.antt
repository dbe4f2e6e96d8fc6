-- `lines::requests::read_request` meets its contract.
-- Assumes nothing.
use mathlib.Core.Path.{sym, ap, ◌∙◌}
use Rattle.lines.specs.RequestLines.{request_of, request_line}
use Rattle.lines.proofs.LineLaws.{fields_at, fields_alone, request_none, request_some, request_alone}
use Rattle.lines.proofs.requests.read_request.Goals as goal

pub returns-in_err-end : goal.returns-in_err-end
unfolding request_line
returns-in_err-end c =
    c.from_residual.ensures ∙ sym (ap request_of (fields_alone _ (sym c.first_blank.ensures ∙ c.in_err-end.was)) ∙ request_alone _)

pub returns-in_err-a : goal.returns-in_err-a
unfolding request_line
returns-in_err-a c =
    c.from_residual-in_err-a.ensures
    ∙ sym (ap request_of (fields_at _ _ (sym c.first_blank.ensures ∙ c.in_ok-end.was)) ∙ request_none _ _ (sym c.read_values.ensures ∙ c.in_err-a.was))

pub returns : goal.returns
unfolding request_line
returns c =
    c.named.ensures
    ∙ sym (ap request_of (fields_at _ _ (sym c.first_blank.ensures ∙ c.in_ok-end.was)) ∙ request_some _ _ _ (sym c.read_values.ensures ∙ c.in_ok-a.was))
