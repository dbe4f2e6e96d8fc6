-- `stripe::places::Layout::block_number` meets its contract: the member's blocks start at its number times the stripes.
-- Assumes nothing.
use mathlib.Core.Path.{ap}
use Prim.Native.Nat.{ℕ, ◌+◌, ◌*◌}
use Rattle.stripe.specs.Places.{place}
use Rattle.stripe.proofs.places.Layout.block_number.Goals as goal

pub returns : goal.returns
unfolding place
returns c = ap (λ (m : ℕ). m * c.args.stripes + c.args.x) c.member.ensures.value
