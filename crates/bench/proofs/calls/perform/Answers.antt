-- `bench::calls::perform` meets its contract: each arm has the promise of the call that it makes.
-- Assumes nothing.
use mathlib.Core.Path.{refl, ap, ◌∙◌}
use native.Mathlib.Omega.{arith}
use lib.ListN.{replicate}
use lib.Seq.{length-take-le}
use Rattle.bench.specs.Bench.{Performed}
use Rattle.bench.proofs.BenchLaws.{first_found, write_as_asked, plain_as_asked, fetch_as_asked}
use Rattle.bench.proofs.calls.perform.Goals as goal

pub returns-in-Start : goal.returns-in-Start
unfolding Performed
returns-in-Start c = rw (c.in-Start.is, c.into.ensures) (c.shelf_start.ensures, refl)

pub returns-in-Write : goal.returns-in-Write
unfolding Performed
returns-in-Write c =
    let d = c.data_length in
    let long = length-take-le d.result c.args.bytes.now (omega (arith, d.ensures.upper_bound, c.told-bytes)) in
    let filled = c.fill.ensures.after (λ y e. e) ∙ ap (λ k. replicate k c.in-Write.v) (long ∙ d.ensures.value) in
    rw (c.in-Write.is, c.into-in-Write.ensures) (write_as_asked _ _ _ _ _ _ _ c.requires filled c.shelf_write.ensures, refl)

pub returns-in-Read : goal.returns-in-Read
unfolding Performed
returns-in-Read c =
    let d = c.data_length-in-Read in
    let long = length-take-le d.result c.args.bytes.now (omega (arith, d.ensures.upper_bound, c.told-bytes)) in
    rw (c.in-Read.is, c.outcome_of_read.ensures) (
      plain_as_asked _ _ _ _ _ _ c.requires (long ∙ d.ensures.value) c.shelf_read-a.ensures.answered,
      first_found _ _ _ c.shelf_read-a.ensures.out_after,
    )

pub returns-in-Fetch : goal.returns-in-Fetch
unfolding Performed
returns-in-Fetch c =
    let d = c.data_length-in-Fetch in
    let long = length-take-le d.result c.args.bytes.now (omega (arith, d.ensures.upper_bound, c.told-bytes)) in
    rw (c.in-Fetch.is, c.outcome_of_read-in-Fetch.ensures) (
      fetch_as_asked _ _ _ _ _ _ c.requires (long ∙ d.ensures.value) c.shelf_fetch-a.ensures.answered,
      first_found _ _ _ c.shelf_fetch-a.ensures.out_after,
    )

pub returns-in-Fail : goal.returns-in-Fail
unfolding Performed
returns-in-Fail c = rw (c.in-Fail.is, c.into-in-Fail.ensures) (c.shelf_fail.ensures, refl)

pub returns-in-Resync : goal.returns-in-Resync
unfolding Performed
returns-in-Resync c = rw (c.in-Resync.is, c.into-in-Resync.ensures) (c.shelf_resync.ensures.answered, refl)

pub returns-in-Rebuild : goal.returns-in-Rebuild
unfolding Performed
returns-in-Rebuild c = rw (c.in-Rebuild.is, c.into-in-Rebuild.ensures) (c.shelf_rebuild.ensures, refl)

pub returns-in-NewLog : goal.returns-in-NewLog
unfolding Performed
returns-in-NewLog c = rw (c.in-NewLog.is, c.into-in-NewLog.ensures) (c.shelf_new_log.ensures, refl)

pub returns-in-FullResync : goal.returns-in-FullResync
unfolding Performed
returns-in-FullResync c = rw (c.in-FullResync.is, c.into-in-FullResync.ensures) (c.shelf_full_resync.ensures, refl)
