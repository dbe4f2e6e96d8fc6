-- `shelf::status::read_rows` meets its contract: where no array member has failed, no block is on a failed one.
-- Assumes nothing.
use mathlib.Core.Bool.{false}
use mathlib.Core.Path.{◌≡◌, ◌∙◌, sym}
use native.Mathlib.Omega.{arith}
use Rattle.shelf.specs.Lent.{flag_at}
use Rattle.shelf.specs.Status.{code_of, read_failed}
use Rattle.shelf.proofs.calls.ServedLaws.{none-failed}
use Rattle.shelf.proofs.numbers.RowRules.{row_rules}
use Rattle.shelf.proofs.status.read_rows.Goals as goal
use Rattle.shelf.proofs.status.read_rows.Goals.{else-array_failed-via-then-array_failed+else-read_failed, else-array_failed-via-else-array_failed}

pub returns : goal.returns
unfolding code_of
returns c =
    let r = c.args.shelf in
    let passed : read_failed r.geometry (flag_at r) c.args.a c.args.n ≡ false = elim c.else-array_failed.branch [
      | else-array_failed-via-then-array_failed+else-read_failed w ↦ sym w.read_failed.ensures ∙ w.if-read_failed.false
      | else-array_failed-via-else-array_failed w ↦ none-failed r (omega arith) (sym c.array_failed.ensures ∙ w.if-array_failed.false) c.args.a c.args.n
    ] in grind (arith, row_rules, passed)
