-- `stripe::recover::Shape::put` meets its contract: work is one block.
-- Assumes nothing.
use mathlib.Core.List.{List}
use mathlib.Core.Path.{ap, ◌∙◌}
use Prim.Native.Nat.{ℕ, ◌+◌}
use Rattle.stripe.specs.Blocks.{put}
use Rattle.stripe.proofs.BlockLaws.{fits, block-whole}
use Rattle.stripe.proofs.recover.Shape.put.Goals as goal

pub copy_block-requires-clause-to_in_bounds : goal.copy_block-requires-clause-to_in_bounds
copy_block-requires-clause-to_in_bounds c =
    let s = c.args.self.now in
    fits c.args.m (s.d + s.parities) s.b c.args.stripe.now c.requires.workable.whole c.requires.m_bound

pub returns : goal.returns
returns c =
    let s = c.args.self.now in
    c.copy_block.ensures ∙ ap (λ (x : List ℕ). put s.b c.args.m x c.args.stripe.now) (block-whole s.b c.args.work.now c.requires.workable.working)
