-- `bench::session::Session::feed` meets its contract. The loop's invariant: the lines that ended so far are taken, and what is written of them stands in out.
-- Assumes nothing.
use mathlib.Core.List.{List}
use Prim.Native.Nat.{ℕ, ◌*◌, ◌-◌, ◌≤◌}
use lib.ListN.{length, take}
use Rattle.lines.specs.Held.{Keeps}
use Rattle.bench.proofs.SessionLaws.{SoFar}
use Rattle.bench.proofs.session.Session.feed.Given as goal

abbrev pub invariant-loop-at : goal.invariant-loop-at
invariant-loop-at l =
    (l.at ≤ length l.input)
    × ((l.len ≤ 128 * l.at)
    × ((t : List ℕ) → Keeps l.initial.self.line t → SoFar l.input t l.initial.self.stage l.initial.self.room l.at (take l.len l.out) l.self))

abbrev pub decreases-loop-at : goal.decreases-loop-at
decreases-loop-at l = length l.input - l.at
