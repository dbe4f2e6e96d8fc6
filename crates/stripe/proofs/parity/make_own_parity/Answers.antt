-- `stripe::parity::make_own_parity` meets its contract, for each number of parities.
-- Assumes nothing.
use mathlib.Core.Path.{◌≡◌}
use native.Mathlib.Omega.{arith}
use lib.ListN.{length}
use Rattle.stripe.specs.Places.{in_order}
use Rattle.stripe.proofs.PlaceLaws.{whole_for, made_for}
use Rattle.stripe.proofs.parity.make_own_parity.Goals as goal

pub make_own-requires : goal.make_own-requires
make_own-requires c =
    let a = c.args in
    whole_for a.d a.parities 1 a.b (length a.stripe.now) c.if-parities-eq1.true c.requires

pub returns-then-parities-eq1 : goal.returns-then-parities-eq1
returns-then-parities-eq1 c =
    let a = c.args in
    made_for (λ _. in_order) a.d a.parities 1 a.b a.stripe.now _ c.if-parities-eq1.true c.make_own.ensures

pub make_own-requires-else-parities-eq1 : goal.make_own-requires-else-parities-eq1
make_own-requires-else-parities-eq1 c =
    let a = c.args in
    let two : a.parities ≡ 2 = omega (arith, c.requires.parity-least, c.requires.parity-most, c.if-parities-eq1.false) in
    whole_for a.d a.parities 2 a.b (length a.stripe.now) two c.requires

pub returns-else-parities-eq1 : goal.returns-else-parities-eq1
returns-else-parities-eq1 c =
    let a = c.args in
    let two : a.parities ≡ 2 = omega (arith, c.requires.parity-least, c.requires.parity-most, c.if-parities-eq1.false) in
    made_for (λ _. in_order) a.d a.parities 2 a.b a.stripe.now _ two c.make_own-else-parities-eq1.ensures
