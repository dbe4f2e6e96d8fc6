-- `shelf::status::rebuild_rows` meets its contract: where the log is sound or nothing is listed, no block is withheld.
-- Assumes nothing.
use mathlib.Core.Bool.{false}
use mathlib.Core.Path.{◌≡◌, ◌∙◌, sym}
use native.Mathlib.Omega.{arith}
use Rattle.shelf.specs.Lent.{flag_at, listed_by}
use Rattle.shelf.specs.Status.{code_of, data_withheld}
use Rattle.shelf.proofs.calls.RebuildLaws.{none_by_list, none_by_log}
use Rattle.shelf.proofs.numbers.RowRules.{row_rules}
use Rattle.shelf.proofs.status.rebuild_rows.Goals as goal
use Rattle.shelf.proofs.status.rebuild_rows.Goals.{else-log_failed-via-then-log_failed+then-shelf-gt0+else-data_withheld, else-log_failed-via-then-log_failed+else-shelf-gt0, else-log_failed-via-else-log_failed}

pub returns : goal.returns
unfolding code_of
returns c =
    let r = c.args.shelf in
    let l = c.args.list.now in
    let passed : data_withheld r.geometry (flag_at r) (listed_by r.geometry l) ≡ false = elim c.else-log_failed.branch [
      | else-log_failed-via-then-log_failed+then-shelf-gt0+else-data_withheld w ↦ sym w.data_withheld.ensures ∙ w.if-data_withheld.false
      | else-log_failed-via-then-log_failed+else-shelf-gt0 w ↦ none_by_list r l c.requires (omega arith)
      | else-log_failed-via-else-log_failed w ↦ none_by_log r l c.requires (sym c.log_failed.ensures ∙ w.if-log_failed.false)
    ] in grind (arith, row_rules, passed)
