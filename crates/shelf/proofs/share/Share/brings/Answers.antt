-- `shelf::share::Share::brings` meets its contract.
-- Assumes nothing.
use Rattle.std.specs.Prelude.{None}
use mathlib.Core.Path.{◌∙◌}
use lib.ListN.{get_or}
use Rattle.shelf.proofs.calls.SourceLaws.{std_some}
use Rattle.shelf.proofs.share.Share.brings.Goals as goal

pub returns : goal.returns
returns c = c.is_some.ensures ∙ std_some (get_or c.args.self.now.from c.args.i None)
