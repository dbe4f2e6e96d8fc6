-- `stripe::parity::make_parity` meets its contract, for each number of parities.
-- Assumes nothing.
use mathlib.Core.Path.{◌≡◌}
use Prim.Native.Nat.{ℕ}
use native.Mathlib.Omega.{arith}
use lib.ListN.{length}
use Rattle.stripe.specs.Places.{place}
use Rattle.stripe.proofs.PlaceLaws.{measures_for, made_for}
use Rattle.stripe.proofs.parity.make_parity.Goals as goal

pub make_array-requires : goal.make_array-requires
make_array-requires c =
    let a = c.args in
    measures_for a.layout.d a.layout.parities 1 a.stripes a.x a.b (length a.array.now) c.if-layout-eq1.true c.requires

pub returns-then-layout-eq1 : goal.returns-then-layout-eq1
returns-then-layout-eq1 c =
    let a = c.args in
    made_for (λ (k : ℕ). place a.layout.number a.layout.d k a.stripes a.x) a.layout.d a.layout.parities 1 a.b a.array.now _ c.if-layout-eq1.true c.make_array.ensures

pub make_array-requires-else-layout-eq1 : goal.make_array-requires-else-layout-eq1
make_array-requires-else-layout-eq1 c =
    let a = c.args in
    let two : a.layout.parities ≡ 2 = omega (arith, c.requires.parity-least, c.requires.parity-most, c.if-layout-eq1.false) in
    measures_for a.layout.d a.layout.parities 2 a.stripes a.x a.b (length a.array.now) two c.requires

pub returns-else-layout-eq1 : goal.returns-else-layout-eq1
returns-else-layout-eq1 c =
    let a = c.args in
    let two : a.layout.parities ≡ 2 = omega (arith, c.requires.parity-least, c.requires.parity-most, c.if-layout-eq1.false) in
    made_for (λ (k : ℕ). place a.layout.number a.layout.d k a.stripes a.x) a.layout.d a.layout.parities 2 a.b a.array.now _ two c.make_array-else-layout-eq1.ensures
