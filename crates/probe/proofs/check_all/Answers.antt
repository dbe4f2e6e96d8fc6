-- `probe::check_all` meets its contract: the rows, a test after the other.
-- Assumes nothing.
use mathlib.Core.Path.{sym, ◌∙◌}
use native.Mathlib.Omega.{arith}
use Rattle.probe.proofs.ProbeLaws.{blocks_fit, bytes_fit, all_one, all_two, all_zero}
use Rattle.probe.proofs.check_all.Goals as goal

pub returns-then-bad_shape : goal.returns-then-bad_shape
returns-then-bad_shape c = all_one c.args.d c.args.parities c.args.s c.args.b c.args.n (sym c.bad_shape.ensures ∙ c.if-bad_shape.true)

pub overflow_mul-d : goal.overflow_mul-d
overflow_mul-d c = omega (arith, blocks_fit c.args.d c.args.parities c.args.s c.args.b (sym c.bad_shape.ensures ∙ c.if-bad_shape.false))

pub overflow_mul-d-2 : goal.overflow_mul-d-2
overflow_mul-d-2 c = omega (arith, bytes_fit c.args.d c.args.parities c.args.s c.args.b (sym c.bad_shape.ensures ∙ c.if-bad_shape.false))

pub returns-then-n-d : goal.returns-then-n-d
returns-then-n-d c = all_two c.args.d c.args.parities c.args.s c.args.b c.args.n (sym c.bad_shape.ensures ∙ c.if-bad_shape.false) c.if-n-d.true

pub returns : goal.returns
returns c = all_zero c.args.d c.args.parities c.args.s c.args.b c.args.n (sym c.bad_shape.ensures ∙ c.if-bad_shape.false) c.if-n-d.false
