-- `lines::held::HeldLine::line` meets its contract.
-- Assumes nothing.
use mathlib.Core.Path.{ap, ◌∙◌}
use lib.ListN.{take}
use Rattle.lines.specs.Held.{fitting}
use Rattle.lines.proofs.HeldLaws.{fitting_by}
use Rattle.lines.proofs.held.HeldLine.line.Goals as goal

pub returns-clause-value : goal.returns-clause-value
returns-clause-value c =
    let s = c.self.inside in
    ap (λ n. take n s.bytes) c.unwrap_or.ensures ∙ fitting_by s.bytes s.len ∙ ap fitting c.self.view_is
