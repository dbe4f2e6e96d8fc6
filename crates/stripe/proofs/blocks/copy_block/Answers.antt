-- `stripe::blocks::copy_block` meets its contract: what is written over is the block.
-- Assumes nothing.
use mathlib.Core.List.{List, ◌++◌}
use mathlib.Core.Path.{◌≡◌, sym, ap, ◌∙◌}
use Prim.Native.Nat.{ℕ, ◌+◌, ◌*◌, ◌-◌}
use native.Mathlib.Omega.{arith}
use lib.ListN.{take, drop, length}
use lib.Seq.{take_all}
use Rattle.std.proofs.lemmas.Slice.{put_mid-paste}
use Rattle.stripe.specs.Blocks.{block, put}
use Rattle.stripe.proofs.BlockLaws.{length-block}
use Rattle.stripe.proofs.blocks.copy_block.Goals as goal

pub returns : goal.returns
unfolding put block
returns c =
    let a = c.args in
    let b = a.b in
    let copied = block b a.n a.src.now in
    let len : length copied ≡ b = length-block b a.n a.src.now c.requires.from_in_bounds in
    let size : a.n * b + b - a.n * b ≡ b = omega arith in
    put_mid-paste (a.k * b) _ a.dst.now _ copied b (c.copy_row.ensures ∙ ap (λ (m : ℕ). take m (drop (a.n * b) a.src.now)) size) (omega arith) (sym len)
    ∙ ap (λ (x : List ℕ). take (a.k * b) a.dst.now ++ x ++ drop (a.k * b + b) a.dst.now) (take_all b copied (omega (arith, len)))
