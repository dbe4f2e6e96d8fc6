-- `stripe::rows::copy_row` meets its contract. The loop's invariant: the bytes passed are those of src.
-- Assumes nothing.
use Rattle.stripe.specs.below.Steps.{byte}
use Rattle.stripe.proofs.Lists.{Filled}
use Rattle.stripe.proofs.rows.copy_row.Given as goal

abbrev pub invariant-loop-j : goal.invariant-loop-j
invariant-loop-j l = Filled l.initial.dst l.dst l.j (byte l.src)
