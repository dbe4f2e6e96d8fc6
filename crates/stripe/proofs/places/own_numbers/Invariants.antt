-- `stripe::places::own_numbers` meets its contract. The loop's invariant: each role passed has its own number in the table.
-- Assumes nothing.
use Rattle.stripe.specs.Places.{in_order}
use Rattle.stripe.specs.below.Tables.{Tabled}
use Rattle.stripe.proofs.places.own_numbers.Given as goal

abbrev pub invariant-loop-i : goal.invariant-loop-i
invariant-loop-i l = Tabled l.i in_order l.n-items
