-- `shelf::status::check_format` meets its contract.
-- Assumes nothing.
use mathlib.Core.Path.{◌∙◌, sym}
use Rattle.shelf.proofs.numbers.InputLaws.{in_range_lem}
use Rattle.shelf.proofs.status.check_format.Goals as goal

pub bad_lengths-requires : goal.bad_lengths-requires
bad_lengths-requires c = in_range_lem c.args.g (sym c.bad_measures.ensures ∙ c.if-bad_measures.false)
