-- `field::twice` meets its contract: the low seven digits moved up are all eight moved up, less the one that leaves.
-- Assumes nothing.
use mathlib.Core.Path.{◌≡◌, ap}
use Prim.Native.Nat.{ℕ, ◌*◌, ◌/◌, ◌%◌, ◌<◌}
use native.Mathlib.Omega.{arith}
use lib.Bits.{bit_xor}
use Rattle.field.specs.Field.{double}
use Rattle.field.proofs.twice.Goals as goal

twice_is : (a : ℕ) → a < 256 → bit_xor (a % 128 * 2) (a / 128 * 29) ≡ double a
unfolding double
twice_is a h = let e : a % 128 * 2 ≡ a * 2 % 256 = omega arith in ap (λ (x : ℕ). bit_xor x (a / 128 * 29)) e

pub returns : goal.returns
returns c = twice_is c.args.a c.ranges.a.fits
