-- `shelf::status::withheld` meets its contract.
-- Assumes nothing.
use native.Mathlib.Omega.{arith}
use Rattle.std.proofs.lemmas.Grind.{common_steps}
use Rattle.shelf.proofs.calls.ServedLaws.{stale_is}
use Rattle.shelf.proofs.status.withheld.Goals as goal

pub returns-then-role_failed : goal.returns-then-role_failed
returns-then-role_failed c =
    let stale = stale_is c.args.shelf c.args.list.now c.requires.list_ready c.args.x in
    grind (arith, common_steps, stale)
