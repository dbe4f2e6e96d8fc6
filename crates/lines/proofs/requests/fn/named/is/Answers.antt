-- `lines::requests::named` meets its contract: its closure `is`.
-- Assumes nothing.
use mathlib.Core.Path.{◌∙◌}
use Rattle.lines.proofs.NameLaws.{same_pointwise}
use Rattle.lines.proofs.requests.fn.named.is.Goals as goal

pub returns : goal.returns
returns c = c.eq.ensures ∙ same_pointwise _ _
