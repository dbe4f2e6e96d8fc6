-- `stripe::places::turned` meets its contract.
-- Assumes nothing.
use mathlib.Core.Path.{sym}
use Rattle.stripe.proofs.MemberLaws.{turned-low, turned_high}
use Rattle.stripe.proofs.places.turned.Goals as goal

pub returns-then-k-n-clause-value : goal.returns-then-k-n-clause-value
returns-then-k-n-clause-value c = sym (turned-low c.args.n c.args.m c.args.i c.if-k-n.true)

pub returns-else-k-n-clause-value : goal.returns-else-k-n-clause-value
returns-else-k-n-clause-value c = sym (turned_high c.args.n c.args.m c.args.i c.if-k-n.false)
