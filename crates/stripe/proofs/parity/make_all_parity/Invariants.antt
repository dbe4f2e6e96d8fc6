-- `stripe::parity::make_all_parity` meets its contract. The loop's invariant: the stripes passed have their parities made.
-- Assumes nothing.
use mathlib.Core.Path.{◌≡◌}
use Rattle.stripe.specs.Places.{place, parity_made_all}
use Rattle.stripe.proofs.parity.make_all_parity.Given as goal

abbrev pub invariant-loop-x : goal.invariant-loop-x
invariant-loop-x l = l.array ≡ parity_made_all l.x (place l.layout.number l.layout.d l.layout.parities l.stripes) l.layout.d l.layout.parities l.b l.initial.array
