-- `shelf::status::fetch_rows` meets its contract: where the log is sound, no block is withheld.
-- Assumes nothing.
use mathlib.Core.Bool.{false}
use mathlib.Core.Path.{◌≡◌, ◌∙◌, sym}
use native.Mathlib.Omega.{arith}
use Rattle.shelf.specs.Lent.{flag_at, listed_by}
use Rattle.shelf.specs.Status.{code_of, fetch_withheld}
use Rattle.shelf.proofs.calls.ServedLaws.{none-withheld}
use Rattle.shelf.proofs.numbers.RowRules.{row_rules}
use Rattle.shelf.proofs.status.fetch_rows.Goals as goal
use Rattle.shelf.proofs.status.fetch_rows.Goals.{else-log_failed-via-then-log_failed+else-fetch_withheld, else-log_failed-via-else-log_failed}

pub returns : goal.returns
unfolding code_of
returns c =
    let r = c.args.shelf in
    let l = c.args.list.now in
    let passed : fetch_withheld r.geometry (flag_at r) (listed_by r.geometry l) c.args.a c.args.n ≡ false = elim c.else-log_failed.branch [
      | else-log_failed-via-then-log_failed+else-fetch_withheld w ↦ sym w.fetch_withheld.ensures ∙ w.if-fetch_withheld.false
      | else-log_failed-via-else-log_failed w ↦ none-withheld r l c.requires c.args.a c.args.n (sym c.log_failed.ensures ∙ w.if-log_failed.false)
    ] in grind (arith, row_rules, passed)
