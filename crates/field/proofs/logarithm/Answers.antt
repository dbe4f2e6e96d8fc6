-- `field::logarithm` meets its contract: the rule of the table.
-- Assumes nothing.
use Rattle.field.proofs.TableRules.{logarithms, logarithms_hold}
use Rattle.field.proofs.logarithm.Goals as goal

pub returns-clause-upper_bound : goal.returns-clause-upper_bound
unfolding logarithms
returns-clause-upper_bound c = (logarithms_hold c.args.a c.requires.a_nonzero c.ranges.a.fits).0

pub returns-clause-result_value : goal.returns-clause-result_value
unfolding logarithms
returns-clause-result_value c = (logarithms_hold c.args.a c.requires.a_nonzero c.ranges.a.fits).1
