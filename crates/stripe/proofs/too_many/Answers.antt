-- `stripe::too_many` meets its contract.
-- Assumes nothing.
use Rattle.std.proofs.Common.{arith}
use Rattle.std.proofs.lemmas.Grind.{common_steps}
use Rattle.stripe.specs.Calls.{too_many}
use Rattle.stripe.proofs.too_many.Goals as goal

pub returns-then-parities-lt2 : goal.returns-then-parities-lt2
unfolding too_many
returns-then-parities-lt2 c = grind (arith, common_steps)

pub returns-else-parities-lt2 : goal.returns-else-parities-lt2
unfolding too_many
returns-else-parities-lt2 c = grind (arith, common_steps)
