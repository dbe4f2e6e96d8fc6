-- `stripe::solve::Originals::add_block` meets its contract: the block's row is added.
-- Assumes nothing.
use mathlib.Core.Path.{◌∙◌, sym, ap}
use lib.ListN.{length}
use Rattle.stripe.proofs.Lists.{length-gen}
use Rattle.stripe.proofs.SolveLaws.{row_added}
use Rattle.stripe.proofs.solve.Originals.add_block.Goals as goal

pub add_row-requires : goal.add_row-requires
add_row-requires c = ap length c.block.ensures ∙ length-gen _ _ ∙ sym c.requires.work_len

pub returns : goal.returns
returns c = row_added _ _ _ _ _ c.requires.work_len c.block.ensures c.add_row.ensures
