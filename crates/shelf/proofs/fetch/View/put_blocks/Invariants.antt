-- `shelf::fetch::View::put_blocks` meets its contract. The loop's invariant: the first k of its blocks are put in.
-- Assumes nothing.
use mathlib.Core.Path.{◌≡◌}
use Rattle.shelf.specs.below.Reading.{served_to}
use Rattle.shelf.specs.below.Viewing.{seen}
use Rattle.shelf.proofs.fetch.View.put_blocks.Given as goal

abbrev pub invariant-loop-k : goal.invariant-loop-k
invariant-loop-k l = l.out ≡ served_to (seen l.self l.array) l.self.x l.i l.j l.k l.initial.out
