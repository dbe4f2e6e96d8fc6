-- `stripe::solve::Originals::gather_weighted` meets its contract. The loop's invariant: work is the sum by Horner's rule from block i on.
-- Assumes nothing.
use mathlib.Core.Path.{refl, ◌∙◌}
use Prim.Native.Nat.{◌-◌}
use native.Mathlib.Omega.{arith}
use Rattle.stripe.proofs.SolveLaws.{weighted_none, weighted_more, weighted_all}
use Rattle.stripe.proofs.solve.Originals.gather_weighted.Goals as goal

pub loop-i-init : goal.loop-i-init
loop-i-init c =
    let o = c.args.self.now in
    weighted_none o c.fill.new.self (c.fill.ensures.len ∙ c.requires) o.d c.args.x c.args.y o.d refl (λ j h. c.fill.ensures.clones j 0 (omega (arith, c.requires)) refl)

pub loop-i-preserved : goal.loop-i-preserved
loop-i-preserved c =
    let o = c.args.self.now in
    weighted_more o c.loop-i.work _ o.d c.args.x c.args.y c.loop-i.i (c.loop-i.i - 1) (omega arith) c.loop-i.auto.i c.loop-i.invariant c.horner_step.ensures

pub returns : goal.returns
returns c =
    let o = c.args.self.now in
    weighted_all o o.array_bytes o.log_bytes _ o.d c.args.x c.args.y c.loop-i.i (omega arith) c.loop-i.invariant
