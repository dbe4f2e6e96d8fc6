-- `stripe::bad_member` meets its contract.
-- Assumes nothing.
use mathlib.Core.Path.{refl}
use Rattle.stripe.specs.Calls.{bad_member}
use Rattle.stripe.proofs.bad_member.Goals as goal

pub returns : goal.returns
unfolding bad_member
returns c = refl
