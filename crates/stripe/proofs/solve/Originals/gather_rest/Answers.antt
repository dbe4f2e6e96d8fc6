-- `stripe::solve::Originals::gather_rest` meets its contract: P, and the data that is there.
-- Assumes nothing.
use mathlib.Core.Path.{sym, ap, ◌∙◌}
use lib.ListN.{length}
use Rattle.stripe.proofs.Lists.{length-gen}
use Rattle.stripe.proofs.SolveLaws.{rest_gathered}
use Rattle.stripe.proofs.solve.Originals.gather_rest.Goals as goal

pub copy_row-requires : goal.copy_row-requires
copy_row-requires c = ap length c.block.ensures ∙ length-gen _ _ ∙ sym c.requires

pub returns : goal.returns
returns c =
    let o = c.args.self.now in
    rest_gathered o _ _ o.d c.args.x c.args.y (c.copy_row.ensures ∙ c.block.ensures) c.add_data.ensures
