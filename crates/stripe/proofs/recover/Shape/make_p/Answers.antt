-- `stripe::recover::Shape::make_p` meets its contract: the data added up from 0 is put in its place.
-- Assumes nothing.
use mathlib.Core.Path.{refl}
use native.Mathlib.Omega.{arith}
use Rattle.stripe.proofs.RecoverLaws.{p_put}
use Rattle.stripe.proofs.recover.Shape.make_p.Goals as goal

pub returns : goal.returns
returns c = p_put c.args.self.now c.args.stripe.now _ c.originals.ensures c.requires.whole _ _ _ (λ j h. c.fill.ensures.clones j 0 (omega (arith, c.requires.working)) refl) c.add_data.ensures c.put.ensures
