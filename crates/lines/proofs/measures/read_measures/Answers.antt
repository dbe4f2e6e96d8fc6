-- `lines::measures::read_measures` meets its contract.
-- Assumes nothing.
use mathlib.Core.Path.{sym, ◌∙◌}
use Rattle.lines.specs.MeasureLines.{measures_line}
use Rattle.lines.proofs.LineLaws.{measures_none, measures_some}
use Rattle.lines.proofs.measures.read_measures.Goals as goal

pub returns-in_err-d : goal.returns-in_err-d
unfolding measures_line
returns-in_err-d c = c.from_residual.ensures ∙ sym (measures_none _ (sym c.read_values.ensures ∙ c.in_err-d.was))

pub returns : goal.returns
unfolding measures_line
returns c = sym (measures_some _ _ (sym c.read_values.ensures ∙ c.in_ok-d.was))
