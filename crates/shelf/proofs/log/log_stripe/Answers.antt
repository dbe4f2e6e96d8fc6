-- `shelf::log::log_stripe` meets its contract.
-- Assumes nothing.
use mathlib.Core.Path.{ap, ◌∙◌, subst, sym}
use Prim.Native.Nat.{ℕ}
use Rattle.shelf.specs.below.Entries.{records_in}
use Rattle.shelf.specs.below.Writing.{brings, HaveRecords, new_logged}
use Rattle.shelf.proofs.calls.LoggingLaws.{pre_records, new_records, relistable, logs-stripe}
use Rattle.shelf.proofs.log.log_stripe.Goals as goal

pub log_pre_read-requires-clause-records : goal.log_pre_read-requires-clause-records
log_pre_read-requires-clause-records c =
    let a = c.args in
    pre_records a.shelf a.array.now a.log.now a.list.now a.share.now a.plan.now c.requires

pub log_new-requires-clause-records : goal.log_new-requires-clause-records
log_new-requires-clause-records c =
    let a = c.args in
    subst (λ (k : ℕ). HaveRecords a.shelf.geometry.d (brings a.share.now) (λ i. (records_in a.plan.now.entries i).cur) a.shelf.geometry.b k)
    (sym c.log_pre_read.auto.log)
    (new_records a.shelf a.array.now a.log.now a.list.now a.share.now a.plan.now c.requires)

pub relist-n-requires : goal.relist-n-requires
relist-n-requires c =
    let a = c.args in
    relistable a.shelf a.array.now a.log.now a.list.now a.share.now a.plan.now c.requires

pub returns : goal.returns
returns c =
    let a = c.args in
    logs-stripe a.shelf c.logged_to.result a.array.now a.log.now a.list.now c.store_new.new.array c.log_new.new.log c.relist-n.new.list
    c.relist-n.result a.share.now a.plan.now c.requires c.relist-n.ensures c.logged_to.ensures c.store_new.ensures
    (c.log_new.ensures ∙ ap (new_logged a.shelf.geometry a.share.now a.plan.now) c.log_pre_read.ensures)
