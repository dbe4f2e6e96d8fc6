-- `stripe::parity::make_columns` meets its contract. The loop's invariant: the columns of the chunks passed are made.
-- Assumes nothing.
use Prim.Native.Nat.{◌*◌}
use Rattle.stripe.specs.below.Steps.{Partly}
use Rattle.stripe.proofs.parity.make_columns.Given as goal

abbrev pub invariant-loop-chunk : goal.invariant-loop-chunk
invariant-loop-chunk g l = Partly l.starts l.d g.row.K l.b (64 * l.chunk) l.initial.array l.array
