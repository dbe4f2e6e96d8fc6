-- `stripe::stripe_recover` meets its contract: refused with nothing stored, or recovered.
-- Assumes nothing.
use mathlib.Core.Path.{sym, ◌∙◌}
use lib.ListN.{length}
use Rattle.stripe.proofs.CallLaws.{passes, refuses, recover_measures, recover_done, recover_kept}
use Rattle.stripe.proofs.stripe_recover.Goals.{then-is_ok, else-is_ok}
use Rattle.stripe.proofs.stripe_recover.Goals as goal

pub recover-requires : goal.recover-requires
recover-requires c =
    let a = c.args in
    let checked = c.check_recovery-checked in
    let whole = recover_measures a.d a.parities a.b a.x a.y (length a.stripe.now) (passes checked.result (sym c.is_ok.ensures.value ∙ c.if-is_ok.true) ∙ checked.ensures) in
    record { whole = whole.0; x_bound = whole.1.0; y_bound = whole.1.1.0; recoverable = whole.1.1.1 }

pub returns-clause-stripe_after : goal.returns-clause-stripe_after
returns-clause-stripe_after c =
    let a = c.args in
    let checked = c.check_recovery-checked in
    let told = sym c.is_ok.ensures.value in
    elim c.if-is_ok.branch [
      | then-is_ok w ↦
          w.stripe-is ∙ recover_done a.d a.parities a.b a.x a.y a.stripe.now _ (passes checked.result (told ∙ w.if-is_ok.true) ∙ checked.ensures) w.recover.ensures
      | else-is_ok w ↦ w.stripe-is ∙ recover_kept a.d a.parities a.b a.x a.y _ a.stripe.now (refuses checked.result (told ∙ w.if-is_ok.false)) checked.ensures
    ]
