-- `lines::answers::put_columns` meets its contract.
-- Assumes nothing.
use Rattle.lines.specs.AnswerLines.{columns_line}
use borrow.Author.Rules.{rules}
use Rattle.lines.proofs.answers.put_columns.Goals as goal

pub returns : goal.returns
unfolding columns_line
returns c = search rules
