-- `stripe::recover::recover` meets its contract: the two steps are recovery.
-- Assumes nothing.
use Rattle.stripe.proofs.RecoverLaws.{after_steps}
use Rattle.stripe.proofs.recover.recover.Goals as goal

pub returns : goal.returns
returns c = after_steps c.args.d c.args.parities c.args.b c.args.x c.args.y c.args.stripe.now _ _ c.recover_data.ensures c.recover_parity.ensures
