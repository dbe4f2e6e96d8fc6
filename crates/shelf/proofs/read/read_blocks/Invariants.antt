-- `shelf::read::read_blocks` meets its contract. The loop's invariant: a walk over the array's blocks, before block j.
-- Assumes nothing.
use Rattle.shelf.specs.Lent.{array_block}
use Rattle.shelf.proofs.calls.GivenLaws.{Walked}
use Rattle.shelf.proofs.read.read_blocks.Given as goal

abbrev pub invariant-loop-j : goal.invariant-loop-j
invariant-loop-j l = Walked l.g (array_block l.g l.array) l.a l.n l.j l.spot.x l.spot.i l.out
