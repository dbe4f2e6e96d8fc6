-- `lines::answers::put_number` meets its contract: a number below 2 to the 64th takes 20 digits at most.
-- Assumes nothing.
use mathlib.Core.Path.{◌∙◌}
use native.Mathlib.Omega.{arith}
use lib.ListN.{length-set}
use Rattle.lines.proofs.AnswerLaws.{decimal_short, puts_byte, puts_then}
use Rattle.lines.proofs.answers.put_number.Goals as goal

pub put_decimal-requires : goal.put_decimal-requires
put_decimal-requires c = simp length-set (omega (arith, decimal_short 19 c.args.n (omega arith)))

pub shape_of-out : goal.shape_of-out
shape_of-out c = c.put_decimal.auto.out ∙ simp length-set

pub returns : goal.returns
returns c = puts_then (omega arith) (puts_byte _ _ 32 (omega arith)) c.put_decimal.ensures
