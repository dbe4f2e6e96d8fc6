-- `lines::answers::put_decimal` calls itself on ever smaller numbers.
-- Assumes nothing.
use Rattle.lines.proofs.answers.+put_decimal.Given as goal

abbrev pub decreases-put_decimal : goal.decreases-put_decimal
decreases-put_decimal l = l.n
