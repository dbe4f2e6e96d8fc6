-- `stripe::solve::Originals::solve_of_sum` meets its contract: the sum by Q's weights, in which y has that of both, divided.
-- Assumes nothing.
use Rattle.stripe.proofs.SolveLaws.{of_sum_lem}
use Rattle.stripe.proofs.solve.Originals.solve_of_sum.Goals as goal

pub returns : goal.returns
returns c = of_sum_lem c.args.self.now _ _ c.args.x c.args.y c.gather_weighted.ensures c.divide.ensures
