-- `bench::room::array_length` meets its contract.
-- Assumes nothing.
use mathlib.Core.Path.{refl}
use native.Mathlib.Omega.{arith}
use Rattle.shelf.proofs.numbers.InputLaws.{array_small}
use Rattle.bench.proofs.room.array_length.Goals as goal

pub overflow_mul-result : goal.overflow_mul-result
overflow_mul-result c =
    let g = c.args.g in
    rw c.array_members.ensures (record { fits = omega (arith, (array_small g c.requires).0) })

pub overflow_mul-result-2 : goal.overflow_mul-result-2
overflow_mul-result-2 c =
    let g = c.args.g in
    rw c.array_members.ensures (record { fits = omega (arith, (array_small g c.requires).1) })

pub returns : goal.returns
returns c =
    let g = c.args.g in
    rw c.array_members.ensures (record { value = refl; upper_bound = (array_small g c.requires).1 })
