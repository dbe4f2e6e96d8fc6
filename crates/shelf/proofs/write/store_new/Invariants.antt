-- `shelf::write::store_new` meets its contract. The loop's invariant: the new blocks of the indices passed are copied.
-- Assumes nothing.
use mathlib.Core.Path.{◌≡◌}
use Rattle.shelf.specs.Members.{place_at}
use Rattle.shelf.specs.below.Writing.{copied, brings, from_in}
use Rattle.shelf.proofs.write.store_new.Given as goal

abbrev pub invariant-loop-i : goal.invariant-loop-i
invariant-loop-i l = l.array ≡ copied l.i (brings l.share) (from_in l.share) (place_at l.g l.share.x) l.g.b l.share.source.now l.initial.array
