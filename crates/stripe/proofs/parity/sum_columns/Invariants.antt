-- `stripe::parity::sum_columns` meets its contract. The loop's invariant: p and q are the sums over the data blocks from i on, Q's by Horner's rule.
-- Assumes nothing.
use mathlib.Core.Path.{◌≡◌}
use Prim.Native.Nat.{◌<◌}
use Rattle.stripe.specs.below.Steps.{Starts, later, by_start}
use Rattle.stripe.proofs.Sums.{plain_from, horner_from}
use Rattle.stripe.proofs.parity.sum_columns.Given as goal

abbrev pub invariant-loop-i : goal.invariant-loop-i
invariant-loop-i g l =
    record {
      low : l.i < l.d;
      p_so_far : Starts l.w l.p (later (by_start (plain_from l.d l.i) l.starts l.array) l.o);
      q_so_far : g.row.K ≡ 2 → Starts l.w l.q (later (by_start (horner_from l.d l.i) l.starts l.array) l.o);
    }
