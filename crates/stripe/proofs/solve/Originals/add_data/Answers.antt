-- `stripe::solve::Originals::add_data` meets its contract. The loop's invariant: the data blocks passed are added, but x and y.
-- Assumes nothing.
use mathlib.Core.Path.{◌≡◌, ◌∙◌}
use native.Mathlib.Omega.{arith}
use Rattle.stripe.specs.below.Steps.{there}
use Rattle.stripe.specs.below.Gathering.{added}
use Rattle.stripe.proofs.SolveLaws.{data_none, data_more, there-none, there-some}
use Rattle.stripe.proofs.solve.Originals.add_data.Goals as goal
use Rattle.stripe.proofs.solve.Originals.add_data.Goals.{then-i-x+then-i-y, else-i-x}

pub loop-i-init : goal.loop-i-init
loop-i-init c = data_none c.args.self.now c.args.work.now c.requires c.args.x c.args.y

pub loop-i-preserved : goal.loop-i-preserved
loop-i-preserved c =
    let a = c.args in
    let o = c.args.self.now in
    let i = c.loop-i.i in
    let turn : c.if-i-x.work ≡ added (there a.x a.y i) o c.loop-i.work =
    elim c.if-i-x.branch [
      | then-i-x+then-i-y w ↦ w.work-is ∙ there-some o c.loop-i.work _ a.x a.y i w.if-i-x.true w.if-i-y.true w.add_block.ensures
      | else-i-x w ↦
          w.work-is
          ∙ there-none o c.loop-i.work (c.loop-i.auto.work ∙ c.requires) a.x a.y i
          (grind arith)
    ] in
    data_more o o.array_bytes o.log_bytes a.work.now _ _ a.x a.y i c.loop-i.invariant turn
