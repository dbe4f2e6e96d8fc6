-- `field::inv` meets its contract: 2 to the power 255 less the logarithm.
-- Assumes nothing.
use mathlib.Core.Path.{sym, ap, ◌∙◌}
use Prim.Native.Nat.{◌-◌, ◌≤◌}
use native.Mathlib.Omega.{arith}
use Rattle.field.specs.Field.{inverse}
use Rattle.field.proofs.ProductLaws.{inverse-pow, inverse_zero}
use Rattle.field.proofs.TableRules.{powers, powers_hold}
use Rattle.field.proofs.inv.Goals as goal

pub returns-then-a-eq0 : goal.returns-then-a-eq0
returns-then-a-eq0 c = sym (ap inverse c.if-a-eq0.true ∙ inverse_zero)

pub returns : goal.returns
unfolding powers
returns c =
    let l = c.logarithm in
    let le : l.result ≤ 255 = omega arith in
    powers_hold (255 - l.result) (omega arith) ∙ sym (inverse-pow l.result le) ∙ ap inverse l.ensures.result_value
