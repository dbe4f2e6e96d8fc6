-- `shelf::moves::put_places` meets its contract. The loop's invariant: the first j entries are put, and the words behind all places to be filled are kept.
-- Assumes nothing.
use Prim.Native.Nat.{◌+◌, ◌*◌}
use lib.ListN.{length}
use Rattle.shelf.specs.Words.{words}
use Rattle.shelf.specs.below.Rewriting.{placed, KeptFrom, LinksKept, Filled}
use Rattle.shelf.proofs.moves.put_places.Given as goal

abbrev pub invariant-loop-j : goal.invariant-loop-j
invariant-loop-j l = Filled l.i l.j (placed l.e (words l.initial.list) l.h 0) (placed l.e (words l.list) l.h 0) l.fresh
    × (KeptFrom (l.h + 4 * (l.i + length l.fresh)) (words l.initial.list) (words l.list) × LinksKept l.h (words l.initial.list) (words l.list))
