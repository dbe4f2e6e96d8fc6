-- `stripe::solve::Products::scale` meets its contract. The loop's invariant: the bytes passed are multiplied by the constant.
-- Assumes nothing.
use Rattle.stripe.specs.below.Steps.{scaled}
use Rattle.stripe.proofs.Lists.{Filled}
use Rattle.stripe.proofs.solve.Products.scale.Given as goal

abbrev pub invariant-loop-w : goal.invariant-loop-w
invariant-loop-w l = Filled l.initial.work l.work l.w-index (scaled l.self l.initial.work)
