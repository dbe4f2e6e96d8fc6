-- `stripe::bad_measures` meets its contract.
-- Assumes nothing.
use Rattle.std.proofs.Common.{arith}
use Rattle.std.proofs.lemmas.Grind.{common_steps}
use Rattle.stripe.specs.Calls.{bad_measures}
use Rattle.stripe.proofs.bad_measures.Goals.{then-not-contains, else-not-contains}
use Rattle.stripe.proofs.bad_measures.Goals as goal

pub returns-then-not-contains-2 : goal.returns-then-not-contains-2
unfolding bad_measures
returns-then-not-contains-2 c = elim c.if-not-contains.branch [ then-not-contains w ↦ grind (arith, common_steps) | else-not-contains w ↦ grind (arith, common_steps) ]

pub returns-else-not-contains-2 : goal.returns-else-not-contains-2
unfolding bad_measures
returns-else-not-contains-2 c = grind (arith, common_steps)
