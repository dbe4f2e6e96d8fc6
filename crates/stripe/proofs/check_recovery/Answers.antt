-- `stripe::check_recovery` meets its contract: the rows of making parity, and then those of the members.
-- Assumes nothing.
use mathlib.Core.Path.{sym, ◌∙◌}
use Rattle.std.proofs.Common.{◌≡◌}
use Rattle.stripe.specs.Calls.{make_code}
use Rattle.stripe.specs.below.Refusals.{number_of}
use Rattle.stripe.proofs.CallLaws.{refused, passed_on, recover_first, recover_rest}
use Rattle.stripe.proofs.check_recovery.Goals as goal

pub returns-in_err-check_stripe : goal.returns-in_err-check_stripe
returns-in_err-check_stripe c =
    let a = c.args in
    let refusal = c.in_err-check_stripe.field-0.0 in
    let number : number_of refusal ≡ make_code a.d a.parities a.b a.n = c.in_err-check_stripe.ensures in
    passed_on c.from_residual.result refusal c.from_residual.ensures.1 ∙ number ∙ recover_first a.d a.parities a.b a.n a.x a.y (λ z. refused refusal (number ∙ z))

pub returns : goal.returns
returns c =
    let a = c.args in
    c.check_members.ensures ∙ recover_rest a.d a.parities a.b a.n a.x a.y (sym c.in_ok-check_stripe.ensures)
