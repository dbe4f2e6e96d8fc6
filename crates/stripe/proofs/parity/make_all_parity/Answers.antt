-- `stripe::parity::make_all_parity` meets its contract. The loop's invariant: the stripes passed have their parities made.
-- Assumes nothing.
use mathlib.Core.Path.{◌≡◌, refl, ap, ◌∙◌}
use Prim.Native.Nat.{ℕ}
use native.Mathlib.Omega.{arith}
use Rattle.stripe.specs.Places.{place, parity_made_all}
use Rattle.stripe.proofs.ParityLaws.{all-step}
use Rattle.stripe.proofs.parity.make_all_parity.Goals as goal

pub loop-x-init : goal.loop-x-init
unfolding parity_made_all
loop-x-init c = refl

pub loop-x-preserved : goal.loop-x-preserved
loop-x-preserved c =
    let a = c.args in
    let at-loop = c.loop-x in
    all-step (place a.layout.number a.layout.d a.layout.parities a.stripes) a.layout.d a.layout.parities a.b at-loop.x a.array.now at-loop.array _ at-loop.invariant c.make_parity.ensures

pub returns : goal.returns
returns c =
    let a = c.args in
    let at-loop = c.loop-x in
    let done : at-loop.x ≡ a.stripes = omega arith in
    at-loop.invariant ∙ ap (λ (n : ℕ). parity_made_all n (place a.layout.number a.layout.d a.layout.parities a.stripes) a.layout.d a.layout.parities a.b a.array.now) done
