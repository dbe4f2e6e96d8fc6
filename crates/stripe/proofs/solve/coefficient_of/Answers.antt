-- `stripe::solve::coefficient_of` meets its contract: the weights of one or of two blocks.
-- Assumes nothing.
use mathlib.Core.Path.{sym, ap₂, ◌∙◌}
use lib.Bits.{bit_xor}
use Rattle.stripe.proofs.SolveLaws.{coefficient_both, coefficient_alone}
use Rattle.stripe.proofs.solve.coefficient_of.Goals as goal

pub returns-then-y-d : goal.returns-then-y-d
returns-then-y-d c = ap₂ bit_xor c.weight_of.ensures c.weight_of-then-y-d.ensures ∙ sym (coefficient_both c.args.d c.args.x c.args.y c.if-y-d.true)

pub returns-else-y-d : goal.returns-else-y-d
returns-else-y-d c = c.weight_of-else-y-d.ensures ∙ sym (coefficient_alone c.args.d c.args.x c.args.y c.if-y-d.false)
