-- `stripe::places::Layout::first_member` meets its contract.
-- Assumes nothing.
use native.Mathlib.Omega.{arith}
use Rattle.stripe.proofs.MemberLaws.{first_fixed, first_rotating}
use Rattle.stripe.proofs.places.Layout.first_member.Goals as goal

pub returns-then-self-eq0-clause-value : goal.returns-then-self-eq0-clause-value
returns-then-self-eq0-clause-value c = let l = c.args.self in first_fixed l.number l.d l.parities c.args.x c.if-self-eq0.true

pub returns-clause-value : goal.returns-clause-value
returns-clause-value c =
    let l = c.args.self in
    first_rotating l.number l.d l.parities c.args.x _ _ c.roles-n.ensures (omega arith) c.if-self-eq0.false c.turned.ensures.value
