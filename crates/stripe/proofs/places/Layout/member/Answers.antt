-- `stripe::places::Layout::member` meets its contract: in every layout the roles follow the first member round.
-- Assumes nothing.
use Rattle.stripe.proofs.MemberLaws.{member_from}
use Rattle.stripe.proofs.places.Layout.member.Goals as goal

pub returns-clause-value : goal.returns-clause-value
returns-clause-value c =
    let l = c.args.self in
    member_from l.number l.d l.parities c.args.x c.args.i _ _ _ c.roles.ensures c.first_member.ensures.value c.turned.ensures.value c.requires
