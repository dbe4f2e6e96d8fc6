-- `shelf::status::read_failed` meets its contract. The loop's invariant: no block from the j-th on is on a failed disk.
-- Assumes nothing.
use mathlib.Core.Path.{◌≡◌}
use Rattle.shelf.specs.Counting.{any}
use Rattle.shelf.specs.Members.{wanted}
use Rattle.shelf.specs.Lent.{flag_at}
use Rattle.shelf.specs.below.Records.{failed_role}
use Rattle.shelf.specs.Status.{read_failed}
use Rattle.shelf.proofs.status.read_failed.Given as goal

abbrev pub invariant-loop-j : goal.invariant-loop-j
invariant-loop-j l = any l.j (wanted l.shelf.geometry (failed_role l.shelf) l.a) ≡ read_failed l.shelf.geometry (flag_at l.shelf) l.a l.n
