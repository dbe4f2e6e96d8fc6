-- `stripe::rows::double_row` meets its contract. The loop's invariant: the bytes passed are doubled.
-- Assumes nothing.
use Rattle.stripe.specs.below.Steps.{doubled}
use Rattle.stripe.proofs.Lists.{Filled}
use Rattle.stripe.proofs.rows.double_row.Given as goal

abbrev pub invariant-loop-w : goal.invariant-loop-w
invariant-loop-w l = Filled l.initial.work l.work l.w-index (doubled l.initial.work)
