-- `shelf::status::check_input` meets its contract: what one row passed is what the next one asks.
-- Assumes nothing.
use mathlib.Core.Bool.{true}
use mathlib.Core.Path.{◌≡◌, ◌∙◌, sym}
use native.Mathlib.Omega.{arith}
use Rattle.shelf.specs.Lent.{input_rows}
use lib.ListN.{length}
use Rattle.shelf.proofs.numbers.InputLaws.{in_range_lem, inputs_pass, sized, lengths_pass, measures_of_lem}
use Rattle.shelf.proofs.numbers.RowRules.{row_rules}
use Rattle.shelf.proofs.calls.ServedLaws.{list-ready}
use Rattle.shelf.proofs.status.check_input.Goals as goal
use Rattle.shelf.proofs.status.check_input.Goals.{else-three-via-then-three+else-not-check_list, else-three-via-else-three}

pub bad_record-requires : goal.bad_record-requires
bad_record-requires c = sized (in_range_lem c.args.shelf.geometry (sym c.bad_measures.ensures ∙ c.if-bad_measures.false))

pub bad_lengths-requires : goal.bad_lengths-requires
bad_lengths-requires c = in_range_lem c.args.shelf.geometry (sym c.bad_measures.ensures ∙ c.if-bad_measures.false)

pub check_list-requires : goal.check_list-requires
check_list-requires c =
    let a = c.args in
    measures_of_lem a.shelf.geometry a.list.now (in_range_lem a.shelf.geometry (sym c.bad_measures.ensures ∙ c.if-bad_measures.false))
    (lengths_pass a.shelf.geometry a.array a.log (length a.list.now) (sym c.bad_lengths.ensures ∙ c.if-bad_lengths.false)).1.1

pub returns-clause-measures : goal.returns-clause-measures
returns-clause-measures c = λ _. in_range_lem c.args.shelf.geometry (sym c.bad_measures.ensures ∙ c.if-bad_measures.false)

pub returns-clause-listing : goal.returns-clause-listing
unfolding input_rows
returns-clause-listing c = λ _ tried.
    let r = c.args.shelf in
    let l = c.args.list.now in
    let passed : input_rows r c.args.array c.args.log l true 0 ≡ 0 = elim c.else-three.branch [
      | else-three-via-then-three+else-not-check_list w ↦ grind (arith, row_rules)
      | else-three-via-else-three w ↦ grind (arith, row_rules)
    ] in list-ready r c.args.array c.args.log l (inputs_pass r c.args.array c.args.log l 0 passed).0
