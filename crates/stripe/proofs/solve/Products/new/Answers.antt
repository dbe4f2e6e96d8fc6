-- `stripe::solve::Products::new` meets its contract: zeros are the products of 0.
-- Assumes nothing.
use mathlib.Core.Path.{sym, ◌∙◌}
use Prim.Native.Nat.{ℕ}
use lib.ListN.{replicate, get_or-replicate}
use Rattle.field.specs.Field.{Multiples}
use Rattle.field.proofs.Laws.{times_zero_l}
use Rattle.stripe.proofs.solve.Products.new.Goals as goal

-- zeros are the products of 0
no_products : Multiples 0 (replicate 256 0)
no_products k h = get_or-replicate {A = ℕ} 256 k 0 0 h ∙ sym (times_zero_l k)

pub invariant_of-result : goal.invariant_of-result
invariant_of-result c = no_products
