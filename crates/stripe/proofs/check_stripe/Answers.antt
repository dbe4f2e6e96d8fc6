-- `stripe::check_stripe` meets its contract: the rows, a test after the other.
-- Assumes nothing.
use mathlib.Core.Path.{sym, ◌∙◌}
use native.Mathlib.Omega.{arith}
use Rattle.stripe.proofs.CallLaws.{measures_fit, make_one, make_two, make_zero}
use Rattle.stripe.proofs.check_stripe.Goals as goal

pub returns-then-bad_measures : goal.returns-then-bad_measures
returns-then-bad_measures c = make_one c.args.d c.args.parities c.args.b c.args.n (sym c.bad_measures.ensures ∙ c.if-bad_measures.true)

pub overflow_mul-d : goal.overflow_mul-d
overflow_mul-d c = omega (arith, measures_fit c.args.d c.args.parities c.args.b (sym c.bad_measures.ensures ∙ c.if-bad_measures.false))

pub returns-then-n-d : goal.returns-then-n-d
returns-then-n-d c = make_two c.args.d c.args.parities c.args.b c.args.n (sym c.bad_measures.ensures ∙ c.if-bad_measures.false) c.if-n-d.true

pub returns : goal.returns
returns c = make_zero c.args.d c.args.parities c.args.b c.args.n (sym c.bad_measures.ensures ∙ c.if-bad_measures.false) c.if-n-d.false
