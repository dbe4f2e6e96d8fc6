-- `stripe::places::block_starts` meets its contract. The loop's invariant: each block passed has its offset in the table.
-- Assumes nothing.
use Rattle.stripe.specs.Places.{offset_of}
use Rattle.stripe.specs.below.Tables.{Tabled}
use Rattle.stripe.proofs.places.block_starts.Given as goal

abbrev pub invariant-loop-i : goal.invariant-loop-i
invariant-loop-i l = Tabled l.i (offset_of l.ns l.b) l.start-items
