-- `stripe::rows::copy_row` meets its contract. The loop's invariant: the bytes passed are those of src.
-- Assumes nothing.
use mathlib.Core.Path.{refl, sym, ◌∙◌}
use native.Mathlib.Omega.{arith}
use Rattle.stripe.specs.below.Steps.{byte}
use Rattle.stripe.proofs.Lists.{filled_next, filled_all, gen_of}
use Rattle.stripe.proofs.rows.copy_row.Goals as goal

pub loop-j-preserved : goal.loop-j-preserved
loop-j-preserved c =
    filled_next c.args.dst.now c.loop-j.dst c.loop-j.j _ (byte c.args.src.now) c.loop-j.invariant c.loop-j-test.true
    (λ e. unfold byte in refl)

pub returns : goal.returns
returns c =
    filled_all c.args.dst.now c.loop-j.dst c.loop-j.j _ (byte c.args.src.now) c.loop-j.invariant (omega arith) refl
    ∙ sym (gen_of _ (byte c.args.src.now) c.args.src.now c.requires (λ k h. unfold byte in refl))
