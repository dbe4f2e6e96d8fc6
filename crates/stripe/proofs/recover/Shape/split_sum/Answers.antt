-- `stripe::recover::Shape::split_sum` meets its contract: x recovered in work and put in its place, then y from both.
-- Assumes nothing.
use mathlib.Core.Path.{◌∙◌}
use Rattle.stripe.specs.below.Steps.{replaced, sum_of, of_sum}
use Prim.Native.Nat.{◌+◌}
use Rattle.stripe.proofs.RecoverLaws.{of_sum_put, other_put, put_read, in_a_row}
use Rattle.stripe.proofs.recover.Shape.split_sum.Goals as goal

pub returns : goal.returns
returns c =
    let a = c.args in
    let s = c.args.self.now in
    in_a_row (replaced a.x (of_sum s.d a.x a.y)) (replaced a.y (sum_of a.x a.y)) (s.d + s.parities) s.b a.stripe.now _ _
    (of_sum_put s a.stripe.now _ c.originals.ensures c.requires.workable.whole c.requires.le_parities a.x a.y _ _ c.requires.x_lt_d c.solve_of_sum.ensures c.put.ensures)
    (other_put s _ _ c.originals-2.ensures (c.put.auto.stripe ∙ c.requires.workable.whole) a.x a.y _ _ _ c.requires.x_lt_d c.requires.y_lt_d (put_read s a.x _ a.stripe.now _ c.requires.x_lt_d (record { whole = c.requires.workable.whole; working = c.solve_of_sum.auto.work ∙ c.requires.workable.working }) c.put.ensures) c.add_block.ensures c.put-2.ensures)
