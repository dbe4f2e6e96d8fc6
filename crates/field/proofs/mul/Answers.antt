-- `field::mul` meets its contract: 2 to the sum of the logarithms, less 255 where the sum is so large.
-- Assumes nothing.
use mathlib.Core.Path.{◌≡◌, sym, ap, ap₂, ◌∙◌}
use Prim.Native.Nat.{ℕ, ◌+◌, ◌-◌, ◌≤◌}
use native.Mathlib.Nat.{sub-add_cancel}
use native.Mathlib.Omega.{arith}
use Rattle.field.specs.Field.{pow2, times}
use Rattle.field.proofs.ProductLaws.{times_zero_l, times_zero_r, pow2_add, pow2_round}
use Rattle.field.proofs.TableRules.{powers, powers_hold}
use Rattle.field.proofs.mul.Goals.{then-a-eq0-via-then-a-eq0, then-a-eq0-via-else-a-eq0+then-b-eq0}
use Rattle.field.proofs.mul.Goals as goal

by_sum : {a b : ℕ} (i j r : ℕ) → pow2 i ≡ a → pow2 j ≡ b → r ≡ pow2 (i + j) → r ≡ times a b
by_sum i j r p q f = f ∙ sym (pow2_add i j) ∙ ap₂ times p q

by_sum_less : {a b : ℕ} (i j r : ℕ) → pow2 i ≡ a → pow2 j ≡ b → 255 ≤ i + j → r ≡ pow2 (i + j - 255) → r ≡ times a b
by_sum_less i j r p q h f = by_sum i j r p q (f ∙ sym (pow2_round (i + j - 255)) ∙ ap pow2 (sub-add_cancel h))

pub returns-then-a-eq0 : goal.returns-then-a-eq0
returns-then-a-eq0 c =
    elim c.then-a-eq0.branch [
      | then-a-eq0-via-then-a-eq0 w ↦ sym (ap (λ (x : ℕ). times x c.args.b) w.if-a-eq0.true ∙ times_zero_l c.args.b)
      | then-a-eq0-via-else-a-eq0+then-b-eq0 w ↦ sym (ap (times c.args.a) w.if-b-eq0.true ∙ times_zero_r c.args.a)
    ]

pub returns-then-n-lt255 : goal.returns-then-n-lt255
unfolding powers
returns-then-n-lt255 c =
    let one = c.logarithm in
    let two = c.logarithm-2 in
    by_sum one.result two.result _ one.ensures.result_value two.ensures.result_value (powers_hold (one.result + two.result) (omega arith))

pub returns : goal.returns
unfolding powers
returns c =
    let one = c.logarithm in
    let two = c.logarithm-2 in
    by_sum_less one.result two.result _ one.ensures.result_value two.ensures.result_value c.if-n-lt255.false (powers_hold (one.result + two.result - 255) (omega arith))
