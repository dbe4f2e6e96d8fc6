-- `stripe::rows::double_add_row` meets its contract. The loop's invariant: the bytes passed are doubled and have those of src added.
-- Assumes nothing.
use Rattle.stripe.specs.below.Steps.{byte, twice_plus}
use Rattle.stripe.proofs.Lists.{Filled}
use Rattle.stripe.proofs.rows.double_add_row.Given as goal

abbrev pub invariant-loop-j : goal.invariant-loop-j
invariant-loop-j l = Filled l.initial.work l.work l.j (twice_plus (byte l.src) l.initial.work)
