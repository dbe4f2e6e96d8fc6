-- `shelf::record::Shelf::drop_to` meets its contract.
-- Assumes nothing.
use Rattle.shelf.proofs.numbers.RecordLaws.{none_left, none_left_then, some_left}
use Rattle.shelf.proofs.record.Shelf.drop_to.Goals as goal

pub returns-then-self-eq2 : goal.returns-then-self-eq2
returns-then-self-eq2 c = none_left c.args.self c.args.n c.if-n-eq0.true c.if-self-eq2.true

pub returns-else-self-eq2 : goal.returns-else-self-eq2
returns-else-self-eq2 c = none_left_then c.args.self c.args.n c.if-n-eq0.true c.if-self-eq2.false

pub returns-else-n-eq0 : goal.returns-else-n-eq0
returns-else-n-eq0 c = some_left c.args.self c.args.n c.if-n-eq0.false
