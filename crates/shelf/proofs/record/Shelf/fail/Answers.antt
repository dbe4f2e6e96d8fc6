-- `shelf::record::Shelf::fail` meets its contract.
-- Assumes nothing.
use mathlib.Core.Path.{◌∙◌, sym}
use Rattle.shelf.proofs.numbers.RecordLaws.{failed-is, mode-idle, mode_listed, mode_member, mode_other}
use Rattle.shelf.proofs.record.Shelf.fail.Goals as goal
use Rattle.shelf.proofs.record.Shelf.fail.Goals.{else-self-eq1-via-then-self-eq1+else-j-log_member, else-self-eq1-via-else-self-eq1}

pub returns-then-self-eq0 : goal.returns-then-self-eq0
returns-then-self-eq0 c =
    let a = c.args in
    failed-is a.self a.j 0 (mode-idle a.self a.j (c.if-j-log_member.true ∙ c.log_member.ensures) c.if-self-eq1.true c.if-self-eq0.true)

pub returns-else-self-eq0 : goal.returns-else-self-eq0
returns-else-self-eq0 c =
    let a = c.args in
    failed-is a.self a.j 2 (mode_listed a.self a.j (c.if-j-log_member.true ∙ c.log_member.ensures) c.if-self-eq1.true c.if-self-eq0.false)

pub returns-else-self-eq1 : goal.returns-else-self-eq1
returns-else-self-eq1 c =
    let a = c.args in
    failed-is a.self a.j a.self.mode (elim c.else-self-eq1.branch [
      | else-self-eq1-via-then-self-eq1+else-j-log_member w ↦ mode_member a.self a.j (λ q. w.if-j-log_member.false (q ∙ sym w.log_member.ensures))
      | else-self-eq1-via-else-self-eq1 w ↦ mode_other a.self a.j w.if-self-eq1.false
    ])
