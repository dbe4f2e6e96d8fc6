-- `stripe::places::Layout::block_numbers` meets its contract. The loop's invariant: each role passed has its block number in the table.
-- Assumes nothing.
use Rattle.stripe.specs.Places.{place}
use Rattle.stripe.specs.below.Tables.{Tabled}
use Rattle.stripe.proofs.places.Layout.block_numbers.Given as goal

abbrev pub invariant-loop-i : goal.invariant-loop-i
invariant-loop-i l = let layout = l.fn.self in Tabled l.i (place layout.number layout.d layout.parities l.stripes l.x) l.n-items
