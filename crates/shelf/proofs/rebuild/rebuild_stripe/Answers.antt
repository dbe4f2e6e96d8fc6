-- `shelf::rebuild::rebuild_stripe` meets its contract.
-- Assumes nothing.
use mathlib.Core.Path.{sym, ◌∙◌}
use Rattle.shelf.specs.Lent.{lent}
use Rattle.shelf.proofs.numbers.RecordLaws.{roles-made}
use Rattle.shelf.proofs.calls.RefillLaws.{stripe-sound, stripe-parity}
use Rattle.shelf.proofs.rebuild.rebuild_stripe.Goals as goal

pub returns-then-parity_failed : goal.returns-then-parity_failed
returns-then-parity_failed c =
    let a = c.args in
    stripe-parity (lent a.shelf a.array.now a.log.now a.list.now) a.x c.fill_stripe.new.array c.make_parity.new.array (sym c.parity_failed.ensures ∙ c.if-parity_failed.true)
    c.fill_stripe.ensures
    (roles-made a.shelf.geometry c.roles.result c.roles.ensures.number_value c.roles.ensures.d_value c.roles.ensures.parities_value a.x _ _ c.make_parity.ensures)

pub returns-else-parity_failed : goal.returns-else-parity_failed
returns-else-parity_failed c =
    let a = c.args in
    stripe-sound (lent a.shelf a.array.now a.log.now a.list.now) a.x c.fill_stripe.new.array (sym c.parity_failed.ensures ∙ c.if-parity_failed.false)
    c.fill_stripe.ensures
