-- `stripe::rows::add_row` meets its contract. The loop's invariant: the bytes passed have those of src added.
-- Assumes nothing.
use Rattle.stripe.specs.below.Steps.{byte, plus}
use Rattle.stripe.proofs.Lists.{Filled}
use Rattle.stripe.proofs.rows.add_row.Given as goal

abbrev pub invariant-loop-j : goal.invariant-loop-j
invariant-loop-j l = Filled l.initial.work l.work l.j (plus (byte l.src) l.initial.work)
