-- `shelf::list::is_record` meets its contract.
-- Assumes nothing.
use native.Mathlib.Omega.{arith}
use Rattle.shelf.proofs.hashlist.PlaceLaws.{record_test}
use Rattle.shelf.proofs.list.is_record.Goals as goal

pub returns : goal.returns
returns c = record_test c.args.word c.args.next (omega (arith, c.ranges.word.fits))
