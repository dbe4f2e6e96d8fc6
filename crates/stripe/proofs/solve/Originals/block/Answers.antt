-- `stripe::solve::Originals::block` meets its contract: a block that begins in the array ends there, and any other is in the log.
-- Assumes nothing.
use mathlib.Core.Path.{refl}
use native.Mathlib.Omega.{arith}
use Rattle.stripe.proofs.SolveLaws.{from_array, from_log}
use Rattle.stripe.proofs.solve.Originals.block.Goals as goal

pub returns-then-at-behind : goal.returns-then-at-behind
returns-then-at-behind c = let o = c.args.self.now in from_array o c.args.i _ _ refl (o.whole _ c.if-at-behind.true) refl

pub returns-else-at-behind : goal.returns-else-at-behind
returns-else-at-behind c = let o = c.args.self.now in from_log o c.args.i _ _ (omega arith) (omega (arith, c.requires.within c.args.i (omega arith))) refl
