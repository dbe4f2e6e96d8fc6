-- `stripe::solve::Products::fit` meets its contract: the coefficient goes by the pair, in either order, and is the same of sixteen data blocks as of d.
-- Assumes nothing.
use mathlib.Core.Path.{sym, ap, ap₂, ◌∙◌}
use native.Mathlib.Nat.{le_refl}
use Rattle.field.specs.Field.{inverse}
use Rattle.stripe.specs.below.Steps.{coefficient}
use Rattle.stripe.proofs.SolveLaws.{coefficient_alone, coefficient_pair}
use Rattle.stripe.proofs.solve.Products.fit.Goals as goal

pub returns-then-y-d : goal.returns-then-y-d
returns-then-y-d c =
    let a = c.args in
    c.fit_pair.ensures ∙ ap inverse (ap₂ (coefficient 16) c.min.ensures c.max.ensures ∙ coefficient_pair a.d a.x a.y c.requires.d_bound c.requires.x_lt_d c.if-y-d.true)

pub returns-else-y-d : goal.returns-else-y-d
returns-else-y-d c =
    let a = c.args in
    c.fit_pair-else-y-d.ensures ∙ ap inverse (coefficient_alone 16 a.x 16 (le_refl 16) ∙ sym (coefficient_alone a.d a.x a.y c.if-y-d.false))
