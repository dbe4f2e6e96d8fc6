-- `stripe::places::Layout::block_numbers` meets its contract. The loop's invariant: each role passed has its block number in the table.
-- Assumes nothing.
use mathlib.Core.Path.{◌≡◌, ap}
use Prim.Native.Nat.{ℕ, ◌+◌, ◌*◌, ◌<◌}
use native.Mathlib.Omega.{arith}
use Rattle.stripe.specs.Places.{place, member_of}
use Rattle.stripe.proofs.Lists.{fill_step}
use Rattle.stripe.proofs.MemberLaws.{member_from}
use Rattle.stripe.proofs.SliceLaws.{tabled_front, in_front}
use Rattle.stripe.proofs.places.Layout.block_numbers.Goals as goal

pub loop-i-preserved : goal.loop-i-preserved
unfolding place
loop-i-preserved c =
    let l = c.args.self in
    let at-loop = c.loop-i in
    let role : at-loop.i < l.d + l.parities = omega (arith, in_front c.roles-roles.result at-loop.i _ c.loop-i-test.true, c.roles-roles.ensures) in
    let is : c.turned.result ≡ member_of l.number l.d l.parities c.args.x at-loop.i =
    member_from l.number l.d l.parities c.args.x at-loop.i _ _ _ c.roles-roles.ensures c.first_member-first.ensures.value c.turned.ensures.value role in
    fill_step at-loop.n-items at-loop.i _ (place l.number l.d l.parities c.args.stripes c.args.x) (omega (arith, at-loop.auto.n-items, c.loop-i-test.true)) at-loop.invariant
    (ap (λ (m : ℕ). m * c.args.stripes + c.args.x) is)

pub returns : goal.returns
returns c i h =
    let l = c.args.self in
    let role : i < c.roles-roles.result = omega (arith, h, c.roles-roles.ensures) in
    let at : ℕ → ℕ = place l.number l.d l.parities c.args.stripes c.args.x in
    tabled_front c.roles-roles.result c.loop-i.i at c.loop-i.n-items _ _ (omega arith) c.loop-i.auto.n-items c.loop-i-test.false c.loop-i.invariant i role
