-- `stripe::recover::Shape::recover_two` meets its contract: the sum put in place and taken apart is both blocks.
-- Assumes nothing.
use Prim.Native.Nat.{◌+◌, ◌*◌}
use native.Mathlib.Omega.{arith}
use Rattle.stripe.specs.Blocks.{byte_of}
use Rattle.stripe.proofs.RecoverLaws.{sum_put, data_two}
use Rattle.stripe.proofs.recover.Shape.recover_two.Goals as goal

pub returns : goal.returns
unfolding byte_of
returns c =
    let a = c.args in
    let s = c.args.self.now in
    data_two s.d s.parities s.b a.x a.y a.stripe.now _ _ c.requires.le_parities s.measures.data_most (λ j h. omega (arith, c.slice_known-1.given (s.d * s.b + j))) c.requires.x_lt_d c.requires.y_lt_d c.requires.different
    (sum_put s a.stripe.now _ c.originals.ensures c.requires.workable.whole a.x a.y _ _ c.requires.y_lt_d c.gather_rest.ensures c.put.ensures) c.split_sum.ensures
