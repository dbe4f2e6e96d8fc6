-- `stripe::parity::make_chunk` meets its contract: the sums of its columns, stored.
-- Assumes nothing.
use Prim.Native.Nat.{◌+◌}
use native.Mathlib.Omega.{arith}
use lib.ListN.{get_or}
use Rattle.stripe.proofs.SliceLaws.{row_put}
use Rattle.stripe.proofs.ParityLaws.{partly_one, partly_two}
use Rattle.stripe.proofs.parity.make_chunk.Goals as goal

pub returns-then-this-eq2 : goal.returns-then-this-eq2
returns-then-this-eq2 g c =
    let a = c.args in
    let at = a.starts.now in
    let sums = c.sum_columns in
    let p_put = row_put (get_or at a.d 0 + a.o) a.w sums.new.p _ _ a.array.now _ c.requires.w_bound sums.auto.p c.put_row.ensures in
    let q_put = row_put (get_or at (a.d + 1) 0 + a.o) a.w sums.new.q _ _ c.put_row.new.array _ c.requires.w_bound sums.auto.q c.put_row-then-this-eq2.ensures in
    let two = c.if-this-eq2.true in
    λ b a₀ fits own made. partly_two at a.d g.row.K b own a₀ a.o a.w fits a.array.now _ sums.new.p made sums.ensures.p_summed p_put two _ sums.new.q (sums.ensures.q_summed two) q_put

pub returns-else-this-eq2 : goal.returns-else-this-eq2
returns-else-this-eq2 g c =
    let a = c.args in
    let at = a.starts.now in
    let sums = c.sum_columns in
    let roles = c.requires.roles in
    let p_put = row_put (get_or at a.d 0 + a.o) a.w sums.new.p _ _ a.array.now _ c.requires.w_bound sums.auto.p c.put_row.ensures in
    λ b a₀ fits own made.
    partly_one at a.d g.row.K b own a₀ a.o a.w fits a.array.now _ sums.new.p made sums.ensures.p_summed p_put (omega (arith, roles.parity-least, roles.parity-most, c.if-this-eq2.false))
