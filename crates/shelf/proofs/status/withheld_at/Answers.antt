-- `shelf::status::withheld_at` meets its contract.
-- Assumes nothing.
use mathlib.Core.Bool.{true, false}
use mathlib.Core.Path.{◌∙◌, refl, sym}
use Rattle.shelf.proofs.calls.RebuildLaws.{withheld_both}
use Rattle.shelf.proofs.status.withheld_at.Goals as goal

pub returns-then-is_stale : goal.returns-then-is_stale
returns-then-is_stale c =
    let a = c.args in
    withheld_both a.shelf a.list.now c.requires.list_ready a.x c.requires.log_lost true c.data_failed_at.result (sym c.if-is_stale.true ∙ c.is_stale.ensures) c.data_failed_at.ensures

pub returns-else-is_stale : goal.returns-else-is_stale
returns-else-is_stale c =
    let a = c.args in
    c.if-is_stale.false ∙ withheld_both a.shelf a.list.now c.requires.list_ready a.x c.requires.log_lost false _ (sym c.if-is_stale.false ∙ c.is_stale.ensures) refl
