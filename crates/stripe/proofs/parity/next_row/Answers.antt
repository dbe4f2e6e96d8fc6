-- `stripe::parity::next_row` meets its contract. The loop's invariant: the bytes passed are added to p, and to twice q.
-- Assumes nothing.
use mathlib.Core.List.{List}
use mathlib.Core.Path.{sym, subst}
use Prim.Native.Nat.{ℕ, ◌+◌}
use native.Mathlib.Omega.{arith}
use lib.ListN.{length}
use Rattle.stripe.specs.below.Steps.{taken, plus, twice_plus}
use Rattle.stripe.proofs.SliceLaws.{plus_turn, twice_plus-turn, turns_done}
use Rattle.stripe.proofs.Lists.{Filled}
use Rattle.stripe.proofs.parity.next_row.Goals.{then-this-eq2, else-this-eq2}
use Rattle.stripe.proofs.parity.next_row.Goals as goal

pub loop-j-preserved : goal.loop-j-preserved
loop-j-preserved g c =
    let a = c.args in
    let at-loop = c.loop-j in
    let so_far = at-loop.invariant in
    record {
      p_so_far = plus_turn a.row.now a.p.now at-loop.p at-loop.j so_far.p_so_far (omega arith);
      q_so_far = λ both.
          elim c.if-this-eq2.branch [
            | then-this-eq2 w ↦
                subst (λ (q : List ℕ). Filled a.q.now q (at-loop.j + 1) (twice_plus (taken 0 a.row.now) a.q.now)) (sym w.q-is)
                (twice_plus-turn a.row.now a.q.now at-loop.q at-loop.j w.twice.result (so_far.q_so_far both) (omega arith) w.twice.ensures)
            | else-this-eq2 w ↦ absurd (w.if-this-eq2.false both)
          ];
    }

pub returns : goal.returns
returns g c =
    let a = c.args in
    let at-loop = c.loop-j in
    record {
      p_added = turns_done a.p.now at-loop.p at-loop.j (length a.row.now) (plus (taken 0 a.row.now) a.p.now) at-loop.invariant.p_so_far (omega arith);
      q_added = λ both. turns_done a.q.now at-loop.q at-loop.j (length a.row.now) (twice_plus (taken 0 a.row.now) a.q.now) (at-loop.invariant.q_so_far both) (omega arith);
    }
