-- `shelf::rebuild::fill_block` meets its contract: from the log, or worked back.
-- Assumes nothing.
use mathlib.Core.Path.{◌∙◌}
use Rattle.stripe.specs.Blocks.{block}
use Rattle.shelf.proofs.numbers.RecordLaws.{roles-place}
use Rattle.shelf.proofs.calls.RefillLaws.{filled_by}
use Rattle.shelf.proofs.calls.ViewLaws.{seen_logged, seen_lost}
use Rattle.shelf.proofs.rebuild.fill_block.Goals as goal

pub returns-in-Some : goal.returns-in-Some
returns-in-Some c =
    let a = c.args in
    let v = a.view.now in
    filled_by v.shelf a.array.now v.log.now v.list.now v.x a.i c.block_number-k.result (block v.shelf.geometry.b c.in-Some.r v.log.now) c.copy_block.new.dst
    (roles-place v.shelf.geometry c.roles.result c.roles.ensures.number_value c.roles.ensures.d_value c.roles.ensures.parities_value v.x a.i c.block_number-k.result c.block_number-k.ensures) c.copy_block.ensures (seen_logged v a.i c.requires.i_lt_d a.array.now c.requires.rebuildable.ready.array c.requires.failed c.in-Some.r c.in-Some.is)

pub returns : goal.returns
returns c =
    let a = c.args in
    let v = a.view.now in
    filled_by v.shelf a.array.now v.log.now v.list.now v.x a.i c.block_number-k.result (block v.shelf.geometry.b 0 c.refill_block.new.scratch.work) c.copy_block-2.new.dst
    (roles-place v.shelf.geometry c.roles.result c.roles.ensures.number_value c.roles.ensures.d_value c.roles.ensures.parities_value v.x a.i c.block_number-k.result c.block_number-k.ensures) c.copy_block-2.ensures
    (c.refill_block.ensures ∙ seen_lost v a.i c.requires.i_lt_d a.array.now c.requires.rebuildable.ready.array c.requires.failed c.in_default.is)
