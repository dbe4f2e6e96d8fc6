-- `stripe::solve::Originals::horner_step` meets its contract: 0 for x, P with the other data for y, else the block itself.
-- Assumes nothing.
use mathlib.Core.Path.{◌∙◌, sym, ap}
use lib.ListN.{length}
use Rattle.stripe.proofs.Lists.{length-gen}
use Rattle.stripe.proofs.SolveLaws.{sized, row_doubled_added, step_first, step_second, step_other}
use Rattle.stripe.proofs.solve.Originals.horner_step.Goals as goal

pub double_add_row-requires : goal.double_add_row-requires
double_add_row-requires c = ap length c.block.ensures ∙ length-gen _ _ ∙ sym c.requires.work_len

pub returns-then-i-x : goal.returns-then-i-x
returns-then-i-x c =
    let o = c.args.self.now in
    step_first o _ _ o.d c.args.x c.args.y c.args.i c.if-i-x.true (sized o.b _ _ _ c.requires.work_len c.double_row.ensures)

pub returns-then-i-y : goal.returns-then-i-y
returns-then-i-y c =
    let o = c.args.self.now in
    step_second o _ _ _ o.d c.args.x c.args.y c.args.i c.if-i-x.false c.if-i-y.true (sized o.b _ _ _ c.requires.work_len c.double_row-then-i-y.ensures) c.add_rest.ensures

pub returns-else-i-y : goal.returns-else-i-y
returns-else-i-y c =
    let o = c.args.self.now in
    step_other o _ _ o.d c.args.x c.args.y c.args.i c.if-i-x.false c.if-i-y.false (row_doubled_added _ _ _ _ _ c.requires.work_len c.block.ensures c.double_add_row.ensures)
