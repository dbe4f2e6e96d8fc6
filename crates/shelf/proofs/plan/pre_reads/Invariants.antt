-- `shelf::plan::pre_reads` meets its contract. The loop's invariant: the indices passed are told apart and counted.
-- Assumes nothing.
use mathlib.Core.Path.{◌≡◌}
use lib.ListN.{length}
use Rattle.shelf.specs.Counting.{count}
use Rattle.shelf.specs.Calls.{unlisted_written, unlisted_others}
use Rattle.shelf.specs.below.Tables.{Tests}
use Rattle.shelf.specs.below.Entries.{listed_in}
use Rattle.shelf.specs.below.Writing.{brings}
use Rattle.shelf.proofs.plan.pre_reads.Given as goal

abbrev pub invariant-loop-i : goal.invariant-loop-i
invariant-loop-i l = record {
  long_written : length l.written ≡ 16;
  long_others : length l.others ≡ 16;
  written : Tests l.i (unlisted_written (brings l.share) (listed_in l.old)) l.written;
  others : Tests l.i (unlisted_others (brings l.share) (listed_in l.old)) l.others;
  count_written : l.x ≡ count l.i (unlisted_written (brings l.share) (listed_in l.old));
  count_others : l.y ≡ count l.i (unlisted_others (brings l.share) (listed_in l.old));
}
