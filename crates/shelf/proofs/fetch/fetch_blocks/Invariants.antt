-- `shelf::fetch::fetch_blocks` meets its contract. The loop's invariant: the first j blocks that the fetch gives are put in.
-- Assumes nothing.
use mathlib.Core.Path.{◌≡◌}
use Prim.Native.Nat.{◌*◌, ◌-◌, ◌≤◌}
use lib.ListN.{length}
use Rattle.shelf.specs.Members.{wanted}
use Rattle.shelf.specs.Lent.{lent}
use Rattle.shelf.specs.below.Reading.{served_block}
use Rattle.shelf.proofs.calls.GivenLaws.{FilledTo}
use Rattle.shelf.proofs.fetch.fetch_blocks.Given as goal

abbrev pub invariant-loop-j : goal.invariant-loop-j
invariant-loop-j l =
    record {
      so_far : l.j ≤ l.n;
      size : length l.out ≡ l.n * l.shelf.geometry.b;
      filled : FilledTo l.shelf.geometry.b (wanted l.shelf.geometry (served_block (lent l.shelf l.array l.log l.list)) l.a) l.j l.out;
    }

abbrev pub decreases-loop-j : goal.decreases-loop-j
decreases-loop-j l = l.n - l.j
