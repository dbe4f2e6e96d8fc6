-- `shelf::entries::Records::is_listed` meets its contract.
-- Assumes nothing.
use Rattle.shelf.proofs.calls.SourceLaws.{listed_ori, listed_cur}
use Rattle.shelf.proofs.entries.Records.is_listed.Goals as goal

pub returns-then-is_some : goal.returns-then-is_some
returns-then-is_some c = listed_ori c.args.self.ori c.args.self.cur c.is_some.result c.is_some.ensures c.if-is_some.true

pub returns-else-is_some : goal.returns-else-is_some
returns-else-is_some c =
    listed_cur c.args.self.ori c.args.self.cur c.is_some.result c.is_some-else-is_some.result c.is_some.ensures c.if-is_some.false
    c.is_some-else-is_some.ensures
