-- `lines::answers::put_format` meets its contract.
-- Assumes nothing.
use native.Mathlib.Omega.{arith}
use Rattle.lines.specs.AnswerLines.{format_line}
use Rattle.lines.proofs.AnswerLaws.{puts_then}
use Rattle.lines.proofs.answers.put_format.Goals as goal

pub returns : goal.returns
unfolding format_line
returns c = puts_then (omega arith) c.put_word-at.ensures c.put_numbers.ensures
