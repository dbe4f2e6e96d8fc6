-- `shelf::sources::Sources::take_entries` meets its contract. The loop's invariant: the three tables are worked out for the data indices
-- passed.
-- Assumes nothing.
use Rattle.std.specs.Prelude.{None}
use mathlib.Core.Bool.{false}
use mathlib.Core.Path.{◌≡◌}
use lib.ListN.{length}
use Rattle.shelf.proofs.calls.SourceLaws.{Mapped, newest_in, number_in, lacking_in}
use Rattle.shelf.proofs.sources.Sources.take_entries.Given as goal

abbrev pub invariant-loop-i : goal.invariant-loop-i
invariant-loop-i l = record {
  long_latest : length l.self.latest ≡ 16;
  long_originals : length l.self.originals ≡ 18;
  long_missing : length l.self.missing ≡ 18;
  latest : Mapped l.i (newest_in l.entries) None l.initial.self.latest l.self.latest;
  originals : Mapped l.i (number_in l.log l.entries l.initial.self.originals) 0 l.initial.self.originals l.self.originals;
  missing : Mapped l.i (lacking_in l.entries l.initial.self.missing) false l.initial.self.missing l.self.missing;
}
