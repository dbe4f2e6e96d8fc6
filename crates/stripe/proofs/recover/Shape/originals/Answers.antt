-- `stripe::recover::Shape::originals` meets its contract: the stripe's own numbers are held.
-- Assumes nothing.
use mathlib.Core.Path.{refl}
use Prim.Native.Nat.{◌+◌}
use native.Mathlib.Omega.{arith}
use borrow.Author.Rules.{rules}
use Rattle.stripe.proofs.SolveLaws.{whole_blocks}
use Rattle.stripe.proofs.RecoverLaws.{fewer_held, own_held}
use Rattle.stripe.proofs.recover.Shape.originals.Goals as goal

pub invariant_of-result : goal.invariant_of-result
invariant_of-result c =
    let s = c.args.self.now in
    record {
      data_most = s.measures.data_most;
      array_bytes = λ i. omega (arith, c.type_inv.stripe i);
      log_bytes = λ i. omega arith;
      whole = whole_blocks (s.d + s.parities) s.b _ c.requires;
      held = fewer_held (omega (arith, s.measures.parity-least)) (own_held s c.args.stripe.now c.requires (search rules));
    }

pub returns : goal.returns
returns c =
    let s = c.args.self.now in
    record { array_is = refl; log_is = refl; numbers_are = refl; d_is = refl; b_is = refl; held = own_held s c.args.stripe.now c.requires (search rules) }
