-- `probe::bad_shape` meets its contract.
-- Assumes nothing.
use Rattle.std.proofs.Common.{arith}
use Rattle.std.proofs.lemmas.Grind.{common_steps}
use Rattle.probe.specs.Probe.{bad_shape}
use Rattle.probe.proofs.bad_shape.Goals as goal

pub returns-then-bad_measures : goal.returns-then-bad_measures
unfolding bad_shape
returns-then-bad_measures c = grind (arith, common_steps)

pub returns-else-bad_measures : goal.returns-else-bad_measures
unfolding bad_shape
returns-else-bad_measures c = grind (arith, common_steps)
