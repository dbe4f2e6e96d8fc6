-- `stripe::recover::Shape::recover_one` meets its contract: the block recovered in work is put in its place.
-- Assumes nothing.
use Rattle.stripe.proofs.SolveLaws.{differ}
use Rattle.stripe.proofs.ColumnLaws.{two_at_least}
use Rattle.stripe.proofs.RecoverLaws.{q_held, data_put}
use Rattle.stripe.proofs.recover.Shape.recover_one.Goals as goal

pub solve-requires-clause-held : goal.solve-requires-clause-held
solve-requires-clause-held c =
    let s = c.args.self.now in
    λ e. q_held s c.args.stripe.now _ c.originals.ensures c.requires.workable.whole (two_at_least s.parities c.args.x c.args.y c.requires.recoverable (differ _ c.args.x c.args.y e))

pub returns : goal.returns
returns c =
    data_put c.args.self.now c.args.stripe.now _ c.originals.ensures c.requires.workable.whole c.args.x c.args.y _ _ c.requires.recoverable c.requires.x_lt_d c.solve.ensures c.put.ensures
