-- `stripe::stripe_make_parity` meets its contract: a stripe buffer is an array of one stripe.
-- Assumes nothing.
use mathlib.Core.Path.{sym, ◌∙◌}
use lib.ListN.{length}
use Rattle.stripe.proofs.CallLaws.{passes, refuses, make_measures, make_done, make_kept}
use Rattle.stripe.proofs.stripe_make_parity.Goals.{then-is_ok, else-is_ok}
use Rattle.stripe.proofs.stripe_make_parity.Goals as goal

pub make_own_parity-requires : goal.make_own_parity-requires
make_own_parity-requires c =
    let a = c.args in
    let checked = c.check_stripe-checked in
    make_measures a.d a.parities a.b (length a.stripe.now) (passes checked.result (sym c.is_ok.ensures.value ∙ c.if-is_ok.true) ∙ checked.ensures)

pub returns-clause-stripe_after : goal.returns-clause-stripe_after
returns-clause-stripe_after c =
    let a = c.args in
    let checked = c.check_stripe-checked in
    let told = sym c.is_ok.ensures.value in
    elim c.if-is_ok.branch [
      | then-is_ok w ↦
          w.stripe-is ∙ make_done a.d a.parities a.b a.stripe.now _ (passes checked.result (told ∙ w.if-is_ok.true) ∙ checked.ensures) w.make_own_parity.ensures
      | else-is_ok w ↦ w.stripe-is ∙ make_kept a.d a.parities a.b _ a.stripe.now (refuses checked.result (told ∙ w.if-is_ok.false)) checked.ensures
    ]
