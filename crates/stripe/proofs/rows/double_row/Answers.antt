-- `stripe::rows::double_row` meets its contract. The loop's invariant: the bytes passed are doubled.
-- Assumes nothing.
use mathlib.Core.Path.{ap, ◌∙◌}
use native.Mathlib.Omega.{arith}
use mathlib.Core.Path.{refl}
use Rattle.field.specs.Field.{double}
use Rattle.stripe.specs.below.Steps.{doubled}
use Rattle.stripe.proofs.Lists.{filled_next, filled_all}
use Rattle.stripe.proofs.rows.double_row.Goals as goal

pub loop-w-preserved : goal.loop-w-preserved
loop-w-preserved c =
    filled_next c.args.work.now c.loop-w.work c.loop-w.w-index _ (doubled c.args.work.now) c.loop-w.invariant c.loop-w-test.true
    (λ e. unfold doubled in (c.twice.ensures ∙ ap double e))

pub returns : goal.returns
returns c = filled_all c.args.work.now c.loop-w.work c.loop-w.w-index _ (doubled c.args.work.now) c.loop-w.invariant (omega arith) refl
