-- `lines::requests::write_of` meets its contract.
-- Assumes nothing.
use borrow.Author.Tests.{le-leb, lt-leb}
use Rattle.lines.specs.RequestLines.{write_of}
use Rattle.lines.proofs.requests.write_of.Goals as goal

pub returns-then-c-le255 : goal.returns-then-c-le255
unfolding write_of
returns-then-c-le255 c = simp (le-leb _ _ c.if-c-le255.true)

pub returns-else-c-le255 : goal.returns-else-c-le255
unfolding write_of
returns-else-c-le255 c = simp (lt-leb _ _ c.if-c-le255.false)
