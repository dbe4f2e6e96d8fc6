-- `lines::answers::put_answer` meets its contract.
-- Assumes nothing.
use native.Mathlib.Omega.{arith}
use Rattle.lines.specs.AnswerLines.{answer_line, columns}
use Rattle.lines.proofs.AnswerLaws.{puts_then, puts_text}
use Rattle.lines.proofs.answers.put_answer.Goals as goal

pub returns : goal.returns
unfolding answer_line columns
returns c = puts_then (omega arith) (puts_text c.name_of.ensures.value c.put_word-at.ensures) c.put_numbers.ensures
