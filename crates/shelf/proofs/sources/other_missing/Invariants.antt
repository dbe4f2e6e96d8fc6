-- `shelf::sources::other_missing` meets its contract. The loop's invariant: no role passed is missing, but for i.
-- Assumes nothing.
use Rattle.shelf.proofs.calls.ServedLaws.{NoneBelow}
use Rattle.shelf.specs.below.Tables.{tested}
use Rattle.shelf.proofs.sources.other_missing.Given as goal

abbrev pub invariant-loop-n : goal.invariant-loop-n
invariant-loop-n l = NoneBelow (tested l.missing) l.i l.n
