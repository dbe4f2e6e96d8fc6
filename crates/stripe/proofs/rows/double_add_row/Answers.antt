-- `stripe::rows::double_add_row` meets its contract. The loop's invariant: the bytes passed are doubled and have those of src added.
-- Assumes nothing.
use mathlib.Core.Path.{ap, ◌∙◌}
use Prim.Native.Nat.{ℕ}
use lib.Bits.{bit_xor}
use lib.ListN.{get_or}
use native.Mathlib.Omega.{arith}
use mathlib.Core.Path.{refl}
use Rattle.field.specs.Field.{double}
use Rattle.stripe.specs.below.Steps.{byte, twice_plus}
use Rattle.stripe.proofs.Lists.{filled_next, filled_all}
use Rattle.stripe.proofs.rows.double_add_row.Goals as goal

pub loop-j-preserved : goal.loop-j-preserved
loop-j-preserved c =
    filled_next c.args.work.now c.loop-j.work c.loop-j.j _ (twice_plus (byte c.args.src.now) c.args.work.now) c.loop-j.invariant c.loop-j-test.true
    (λ e. unfold twice_plus byte in ap (λ (x : ℕ). bit_xor x (get_or c.args.src.now c.loop-j.j 0)) (c.twice.ensures ∙ ap double e))

pub returns : goal.returns
returns c = filled_all c.args.work.now c.loop-j.work c.loop-j.j _ (twice_plus (byte c.args.src.now) c.args.work.now) c.loop-j.invariant (omega arith) refl
