-- `shelf::record::Shelf::failed_roles` meets its contract.
-- Assumes nothing.
use mathlib.Core.Path.{◌∙◌}
use lib.ListN.{length-set}
use native.Mathlib.Omega.{arith}
use Rattle.shelf.proofs.calls.PlanLaws.{tests_turn}
use Rattle.shelf.proofs.record.Shelf.failed_roles.Goals as goal

pub loop-i-preserved : goal.loop-i-preserved
loop-i-preserved c =
    let at-loop = c.loop-i in (
      length-set at-loop.lost at-loop.i _ ∙ at-loop.invariant.0,
      tests_turn at-loop.i _ at-loop.lost _ (omega (arith, c.requires)) c.role_failed.ensures at-loop.invariant.1,
    )
