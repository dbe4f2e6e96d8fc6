-- `bench::write_columns` is safe and ends.
-- Assumes nothing.
use mathlib.Core.Path.{sym}
use lib.Seq.{length-take-le}
use Rattle.lines.proofs.AnswerLaws.{puts_within}
use Rattle.bench.proofs.write_columns.Goals as goal

pub slice_bounds-write_all-end : goal.slice_bounds-write_all-end
slice_bounds-write_all-end c =
    let p = c.put_columns-n in
    rw p.auto.out (puts_within p.ensures p.auto.out)

pub slice_bounds-write_all-end-2 : goal.slice_bounds-write_all-end-2
slice_bounds-write_all-end-2 c =
    let p = c.put_columns-n in
    sym (length-take-le _ _ (rw p.auto.out (puts_within p.ensures p.auto.out)))
