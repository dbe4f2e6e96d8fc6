-- `shelf::moves::close_up_lost` meets its contract. The loop's invariant: the entries kept, then those of the places from p on, are the
-- whole.
-- Assumes nothing.
use Rattle.shelf.specs.below.Rebuilding.{parity_failed_at}
use Rattle.shelf.proofs.hashlist.EntryLaws.{Closing}
use Rattle.shelf.proofs.moves.close_up_lost.Given as goal

abbrev pub invariant-loop-p : goal.invariant-loop-p
invariant-loop-p l = Closing l.d l.h l.shelf.geometry.e l.n (parity_failed_at l.shelf) l.initial.list l.list l.m l.p
