-- `shelf::list::in_range` meets its contract.
-- Assumes nothing.
use native.Mathlib.Nat.{mul-le-mul}
use native.Mathlib.Omega.{arith}
use Rattle.shelf.proofs.list.in_range.Goals as goal

pub overflow_mul-g : goal.overflow_mul-g
overflow_mul-g c =
    let m = c.requires in
    omega (arith, mul-le-mul m.d_bound m.s_bound)
