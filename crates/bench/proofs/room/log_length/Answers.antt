-- `bench::room::log_length` meets its contract.
-- Assumes nothing.
use mathlib.Core.Path.{refl}
use native.Mathlib.Omega.{arith}
use Rattle.shelf.proofs.numbers.InputLaws.{log_small}
use Rattle.bench.proofs.room.log_length.Goals as goal

pub overflow_mul-result : goal.overflow_mul-result
overflow_mul-result c = record { fits = omega (arith, log_small c.args.g c.requires) }

pub returns-clause-value : goal.returns-clause-value
returns-clause-value c = refl

pub returns-clause-upper_bound : goal.returns-clause-upper_bound
returns-clause-upper_bound c = log_small c.args.g c.requires
