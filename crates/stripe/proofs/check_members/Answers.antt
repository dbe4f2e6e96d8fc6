-- `stripe::check_members` meets its contract: the rows, a test after the other.
-- Assumes nothing.
use mathlib.Core.Bool.{true}
use mathlib.Core.Path.{sym, ◌∙◌}
use Rattle.stripe.specs.Calls.{bad_member, too_many}
use Rattle.stripe.proofs.CallLaws.{row_hit, row_pass, members_six, members_rest, or_left, or_both}
use Rattle.stripe.proofs.check_members.Goals.{then-bad_member-via-then-bad_member, then-bad_member-via-else-bad_member+then-bad_member-2}
use Rattle.stripe.proofs.check_members.Goals as goal

pub returns-then-bad_member : goal.returns-then-bad_member
returns-then-bad_member c =
    let a = c.args in
    let first = sym c.bad_member.ensures in
    members_six a.d a.parities a.x a.y
    (elim c.then-bad_member.branch [
      | then-bad_member-via-then-bad_member w ↦ or_left (bad_member a.d a.parities a.x) (bad_member a.d a.parities a.y) (first ∙ w.if-bad_member.true)
      | then-bad_member-via-else-bad_member+then-bad_member-2 w ↦
          or_both (bad_member a.d a.parities a.x) (bad_member a.d a.parities a.y) true (first ∙ w.if-bad_member.false) (sym w.bad_member-else-bad_member.ensures ∙ w.if-bad_member-2.true)
    ])

pub returns-then-too_many : goal.returns-then-too_many
returns-then-too_many c =
    let a = c.args in
    sym (row_hit (too_many a.parities a.x a.y) 11 0 (sym c.too_many.ensures ∙ c.if-too_many.true))
    ∙ members_rest a.d a.parities a.x a.y (sym c.bad_member.ensures ∙ c.if-bad_member.false) (sym c.bad_member-else-bad_member.ensures ∙ c.if-bad_member-2.false)

pub returns : goal.returns
returns c =
    let a = c.args in
    sym (row_pass (too_many a.parities a.x a.y) 11 0 (sym c.too_many.ensures ∙ c.if-too_many.false))
    ∙ members_rest a.d a.parities a.x a.y (sym c.bad_member.ensures ∙ c.if-bad_member.false) (sym c.bad_member-else-bad_member.ensures ∙ c.if-bad_member-2.false)
