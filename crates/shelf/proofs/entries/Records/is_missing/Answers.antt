-- `shelf::entries::Records::is_missing` meets its contract.
-- Assumes nothing.
use Rattle.shelf.proofs.calls.SourceLaws.{missing_has, missing_lacks, missing_unlisted}
use Rattle.shelf.proofs.entries.Records.is_missing.Goals as goal

pub returns-then-is_some : goal.returns-then-is_some
returns-then-is_some c =
    missing_lacks c.args.self.ori c.args.self.cur c.args.lost c.is_none.result c.is_none.ensures c.if-is_none.true c.is_some.result c.is_some.ensures
    c.if-is_some.true

pub returns-else-is_some : goal.returns-else-is_some
returns-else-is_some c =
    missing_unlisted c.args.self.ori c.args.self.cur c.args.lost c.is_none.result c.is_none.ensures c.if-is_none.true c.is_some.result c.is_some.ensures
    c.if-is_some.false

pub returns-else-is_none : goal.returns-else-is_none
returns-else-is_none c = missing_has c.args.self.ori c.args.self.cur c.args.lost c.is_none.result c.is_none.ensures c.if-is_none.false
