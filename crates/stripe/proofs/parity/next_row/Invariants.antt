-- `stripe::parity::next_row` meets its contract. The loop's invariant: the bytes passed are added to p, and to twice q.
-- Assumes nothing.
use mathlib.Core.Path.{◌≡◌}
use Rattle.stripe.specs.below.Steps.{taken, plus, twice_plus}
use Rattle.stripe.proofs.Lists.{Filled}
use Rattle.stripe.proofs.parity.next_row.Given as goal

abbrev pub invariant-loop-j : goal.invariant-loop-j
invariant-loop-j g l =
    record {
      p_so_far : Filled l.initial.p l.p l.j (plus (taken 0 l.row) l.initial.p);
      q_so_far : g.row.K ≡ 2 → Filled l.initial.q l.q l.j (twice_plus (taken 0 l.row) l.initial.q);
    }
