-- `stripe::solve::Products::scale` meets its contract. The loop's invariant: the bytes passed are multiplied by the constant.
-- Assumes nothing.
use mathlib.Core.Path.{refl, ap₂, ◌∙◌}
use native.Mathlib.Omega.{arith}
use lib.ListN.{get_or}
use borrow.Author.Rules.{rules}
use Rattle.field.specs.Field.{times}
use Rattle.stripe.specs.below.Steps.{scaled}
use Rattle.stripe.proofs.Lists.{filled_none, filled_next, filled_all}
use Rattle.stripe.proofs.solve.Products.scale.Goals as goal

pub loop-w-init : goal.loop-w-init
loop-w-init c = filled_none c.args.work.now (scaled c.args.self.now c.args.work.now)

pub loop-w-preserved : goal.loop-w-preserved
loop-w-preserved c =
    filled_next c.args.work.now c.loop-w.work c.loop-w.w-index _ (scaled c.args.self.now c.args.work.now) c.loop-w.invariant c.loop-w-test.true
    (λ e. unfold scaled in (c.self.invariant (get_or c.loop-w.work c.loop-w.w-index 0) (search rules) ∙ ap₂ times c.self.view_is e))

pub returns : goal.returns
returns c = filled_all c.args.work.now c.loop-w.work c.loop-w.w-index _ (scaled c.args.self.now c.args.work.now) c.loop-w.invariant (omega arith) refl
