-- `shelf::plan::note` meets its contract. The loop's invariant: the records of the indices passed are noted, the others as they were, and ori and cur are
-- the next ones.
-- Assumes nothing.
use mathlib.Core.Path.{◌≡◌}
use Prim.Native.Nat.{◌+◌}
use lib.ListN.{length}
use Rattle.shelf.specs.Counting.{count}
use Rattle.shelf.specs.below.Tables.{tested}
use Rattle.shelf.specs.below.Entries.{no_records, records_in}
use Rattle.shelf.specs.below.Writing.{brings, noted}
use Rattle.shelf.proofs.calls.SourceLaws.{Mapped}
use Rattle.shelf.proofs.plan.note.Given as goal

abbrev pub invariant-loop-i : goal.invariant-loop-i
invariant-loop-i l = record {
  long : length l.entries ≡ 16;
  next_ori : l.ori ≡ l.r + count l.i (tested l.pre);
  next_cur : l.cur ≡ l.q + count l.i (brings l.share);
  noted : Mapped l.i
      (λ j. record {
        ori = noted l.r (tested l.pre) (λ k. (records_in l.initial.entries k).ori) j;
        cur = noted l.q (brings l.share) (λ k. (records_in l.initial.entries k).cur) j;
      })
      no_records l.initial.entries l.entries;
}
