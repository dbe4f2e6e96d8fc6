-- `stripe::solve::Originals::divide` meets its contract: Q added, and the whole scaled by the inverse of the coefficient.
-- Assumes nothing.
use Rattle.stripe.proofs.SolveLaws.{divided_lem}
use Rattle.stripe.proofs.solve.Originals.divide.Goals as goal

pub returns : goal.returns
returns c = divided_lem c.args.self.now _ _ _ c.args.x c.args.y _ c.fit.ensures c.add_block.ensures c.scale.ensures
