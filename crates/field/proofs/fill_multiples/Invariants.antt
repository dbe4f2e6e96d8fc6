-- `field::fill_multiples` meets its contract. The loop's invariant: each entry passed is c times its index.
-- Assumes nothing.
use mathlib.Core.Path.{◌≡◌}
use Prim.Native.Nat.{ℕ, ◌<◌}
use lib.ListN.{get_or}
use Rattle.field.specs.Field.{times}
use Rattle.field.proofs.fill_multiples.Given as goal

abbrev pub invariant-loop-k : goal.invariant-loop-k
invariant-loop-k l = (i : ℕ) → i < l.k → get_or l.entry-items i 0 ≡ times l.c i
