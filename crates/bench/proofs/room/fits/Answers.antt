-- `bench::room::fits` meets its contract.
-- Assumes nothing.
use Prim.Native.Nat.{ℕ, ◌+◌}
use lib.Dec.{leb}
use mathlib.Core.Bool.{not}
use mathlib.Core.Path.{sym, ap, ap₂, ◌∙◌}
use Rattle.shelf.proofs.numbers.InputLaws.{in_range_lem}
use Rattle.bench.proofs.BenchLaws.{too_bad, fits_by}
use Rattle.bench.proofs.room.fits.Goals as goal

pub array_length-requires : goal.array_length-requires
array_length-requires c = in_range_lem _ (sym c.bad_measures.ensures ∙ c.if-not-bad_measures.true)

pub log_length-requires : goal.log_length-requires
log_length-requires c = in_range_lem _ (sym c.bad_measures.ensures ∙ c.if-not-bad_measures.true)

pub list_length-requires : goal.list_length-requires
list_length-requires c = in_range_lem _ (sym c.bad_measures.ensures ∙ c.if-not-bad_measures.true)

pub returns-then-not-bad_measures : goal.returns-then-not-bad_measures
returns-then-not-bad_measures c =
    let g = c.args.g in
    fits_by g (sym c.bad_measures.ensures ∙ c.if-not-bad_measures.true)
    (ap (λ (n : ℕ). leb n 32768)
    (ap₂ ◌+◌ (ap₂ ◌+◌ c.array_length.ensures.value c.log_length.ensures.value) c.list_length.ensures.value))

pub returns-else-not-bad_measures : goal.returns-else-not-bad_measures
returns-else-not-bad_measures c = ap not c.if-not-bad_measures.false ∙ too_bad _ (sym c.bad_measures.ensures ∙ c.if-not-bad_measures.false)
