-- `shelf::shelf_resync` meets its contract.
-- Assumes nothing.
use mathlib.Core.Path.{◌∙◌, ◌≡◌, ap}
use Prim.Native.Nat.{ℕ, ◌<◌}
use native.Mathlib.Omega.{arith}
use lib.ListN.{get_or, length}
use Rattle.shelf.specs.below.Records.{with_listed}
use Rattle.shelf.specs.declared.record.Shelf.{Shelf}
use Rattle.shelf.proofs.numbers.CheckRules.{refused_above}
use Rattle.shelf.proofs.lent.AnswerLaws.{accepted_resync}
use Rattle.shelf.proofs.calls.ResyncLaws.{resync_asks, resync-made, resync-none, resync-refused, stripe_asks}
use borrow.Author.Rules.{rules}
use Rattle.shelf.proofs.shelf_resync.Goals as goal

pub returns-in-Err-clause-stripe_value : goal.returns-in-Err-clause-stripe_value
returns-in-Err-clause-stripe_value c =
    let a = c.args in
    let told = resync-refused a.shelf a.array.now a.log.now a.list.now _ c.in-Err.ensures (λ z. omega (arith, refused_above c.in-Err.refusal, z)) in
    rw c.refused.ensures told.1

pub lowest_stale-x-requires : goal.lowest_stale-x-requires
lowest_stale-x-requires c =
    let a = c.args in
    let whole = resync_asks a.shelf a.array.now a.log.now a.list.now c.in_default.ensures in
    record { measures = whole.0; lists = whole.1 }

pub returns-then-x-g : goal.returns-then-x-g
returns-then-x-g c =
    let a = c.args in
    let long : length a.shelf.failed ≡ 19 = search rules in
    let bytes : (i : ℕ) → get_or a.list.now i 0 < 256 = λ i. search rules in
    let whole =
    accepted_resync c.accepted.ensures (resync-none a.shelf a.array.now a.log.now a.list.now long c.in_default.ensures c.lowest_stale-x.result c.lowest_stale-x.ensures (omega (arith, c.if-x-g.true))
    c.in_mode.result c.in_mode.ensures bytes) in
    record { answered = whole.0; stripe_value = whole.1 }

pub make_stripe-n-requires : goal.make_stripe-n-requires
make_stripe-n-requires c =
    let a = c.args in
    let whole = stripe_asks a.shelf a.array.now a.log.now a.list.now c.in_default.ensures c.lowest_stale-x.result (omega (arith, c.if-x-g.false)) in
    record { in_range = whole.0; x_lt_s = whole.1.0; array_len = whole.1.1.0; measures = whole.1.1.1.0; lists = whole.1.1.1.1 }

pub returns : goal.returns
returns c =
    let a = c.args in
    let long : length a.shelf.failed ≡ 19 = search rules in
    let made = c.make_stripe-n in
    let whole =
    accepted_resync c.accepted-2.ensures (resync-made a.shelf a.array.now a.log.now a.list.now long c.in_default.ensures c.lowest_stale-x.result made.result c.lowest_stale-x.ensures (omega (arith, c.if-x-g.false))
    c.drop_to.result made.new.array made.new.list (c.drop_to.ensures ∙ ap (λ (r : Shelf). with_listed r made.result) c.in_mode-2.ensures) made.ensures.array_after made.ensures.rewritten (λ i. omega (arith, c.type_inv.list i))) in
    record { answered = whole.0; stripe_value = whole.1 }
