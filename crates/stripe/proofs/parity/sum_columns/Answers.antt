-- `stripe::parity::sum_columns` meets its contract. The loop's invariant: p and q are the sums over the data blocks from i on, Q's by Horner's rule.
-- Assumes nothing.
use mathlib.Core.Path.{◌≡◌}
use Prim.Native.Nat.{suc, ◌+◌, ◌-◌, ◌≤◌}
use native.Mathlib.Omega.{arith}
use lib.ListN.{length, get_or}
use Rattle.stripe.proofs.SliceLaws.{run_taken, plus_run, twice_plus-run}
use Rattle.stripe.proofs.ParityLaws.{p_first, q_first, p_next, q_next, p_last, q_last}
use Rattle.stripe.proofs.parity.sum_columns.Goals as goal

pub loop-i-init : goal.loop-i-init
loop-i-init g c =
    let a = c.args in
    let last : a.d ≡ suc (a.d - 1) = omega arith in
    let at = get_or a.starts.now (a.d - 1) 0 + a.o in
    record {
      low = omega arith;
      p_so_far = p_first a.starts.now a.o a.w a.array.now a.d (a.d - 1) _ last (run_taken at a.w a.array.now _ c.copy_from_slice.ensures.after);
      q_so_far = λ both. q_first a.starts.now a.o a.w a.array.now a.d (a.d - 1) _ last (run_taken at a.w a.array.now _ c.copy_from_slice-2.ensures.after);
    }

pub loop-i-preserved : goal.loop-i-preserved
loop-i-preserved g c =
    let a = c.args in
    let at-loop = c.loop-i in
    let so_far = at-loop.invariant in
    let less : at-loop.i ≡ suc (at-loop.i - 1) = omega arith in
    let low : at-loop.i ≤ a.d = omega (arith, so_far.low) in
    let at = get_or a.starts.now (at-loop.i - 1) 0 + a.o in
    let fits : at + a.w ≤ length a.array.now = omega (arith, c.requires.spans.within (at-loop.i - 1) (omega (arith, so_far.low))) in
    record {
      low = omega (arith, so_far.low);
      p_so_far = p_next a.starts.now a.o a.w a.array.now a.d at-loop.i (at-loop.i - 1) at-loop.p _ less low so_far.p_so_far (plus_run at a.w a.array.now fits at-loop.p _ c.next_row.ensures.p_added);
      q_so_far = λ both.
          q_next a.starts.now a.o a.w a.array.now a.d at-loop.i (at-loop.i - 1) at-loop.q _ less low (so_far.q_so_far both)
          (twice_plus-run at a.w a.array.now fits at-loop.q _ (c.next_row.ensures.q_added both));
    }

pub returns : goal.returns
returns g c =
    let a = c.args in
    let at-loop = c.loop-i in
    let done : at-loop.i ≡ 0 = omega arith in
    record {
      p_summed = p_last a.starts.now a.o a.w a.array.now a.d at-loop.i at-loop.p done (λ i. omega (arith, c.type_inv.array i)) at-loop.invariant.p_so_far;
      q_summed = λ both. q_last a.starts.now a.o a.w a.array.now a.d at-loop.i at-loop.q done (λ i. omega (arith, c.type_inv.array i)) (at-loop.invariant.q_so_far both);
    }
