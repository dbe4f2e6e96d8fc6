-- `shelf::record::Shelf::failed_roles` meets its contract. The loop's invariant: the roles passed have the flags of their members in the table.
-- Assumes nothing.
use mathlib.Core.Path.{◌≡◌}
use lib.ListN.{length}
use Rattle.shelf.specs.below.Records.{failed_role}
use Rattle.shelf.specs.below.Tables.{Tests}
use Rattle.shelf.proofs.record.Shelf.failed_roles.Given as goal

abbrev pub invariant-loop-i : goal.invariant-loop-i
invariant-loop-i l = (length l.lost ≡ 18) × Tests l.i (failed_role l.self l.x) l.lost
