-- `stripe::recover::Shape::make_q` meets its contract: the data added up by Q's weights is put in its place.
-- Assumes nothing.
use Rattle.stripe.proofs.RecoverLaws.{q_put}
use Rattle.stripe.proofs.recover.Shape.make_q.Goals as goal

pub returns : goal.returns
returns c = q_put c.args.self.now c.args.stripe.now _ c.originals.ensures c.requires.workable.whole c.requires.le_parities _ _ c.gather_weighted.ensures c.put.ensures
