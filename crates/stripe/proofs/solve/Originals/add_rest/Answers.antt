-- `stripe::solve::Originals::add_rest` meets its contract: P, and the data that is there.
-- Assumes nothing.
use Rattle.stripe.proofs.SolveLaws.{rest_both}
use Rattle.stripe.proofs.solve.Originals.add_rest.Goals as goal

pub returns : goal.returns
returns c = rest_both c.args.self.now _ _ _ c.args.self.now.d c.args.x c.args.y c.add_block.ensures c.add_data.ensures
