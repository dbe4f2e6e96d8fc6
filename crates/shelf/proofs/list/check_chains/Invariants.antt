-- `shelf::list::check_chains` meets its contract. The loops' invariants: what is left of the walk, from here, is the whole walk, unless
-- more than n places were met, and then the whole walk is a fault.
-- Assumes nothing.
use mathlib.Core.Bool.{false}
use mathlib.Core.Path.{◌≡◌}
use Prim.Native.Nat.{◌+◌, ◌*◌, ◌-◌, ◌≤◌}
use Rattle.shelf.specs.Words.{words}
use Rattle.shelf.specs.below.Checking.{follow, slots}
use Rattle.shelf.proofs.hashlist.NumberThree.{Met, onward, whole}
use Rattle.shelf.proofs.list.check_chains.Given as goal

abbrev pub invariant-loop-p : goal.invariant-loop-p
invariant-loop-p l = (l.fault ≡ false) × ((l.m + (l.n - l.p) ≤ 4096 * l.i + 4096)
    × Met l.n l.m (onward (follow (l.n - l.m) (words l.list) l.h l.n l.i l.p l.m) (words l.list) l.h l.n l.i) (whole (words l.list) l.h l.n))

abbrev pub decreases-loop-p : goal.decreases-loop-p
decreases-loop-p l = l.n - l.p

abbrev pub invariant-all : goal.invariant-all
invariant-all l = (l.fault ≡ false) × ((l.m ≤ 4096 * l.i) × Met l.n l.m (slots (l.h - l.i) (words l.list) l.h l.n l.i l.m) (whole (words l.list) l.h l.n))
