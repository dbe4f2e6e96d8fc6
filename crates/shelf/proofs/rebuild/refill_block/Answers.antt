-- `shelf::rebuild::refill_block` meets its contract: a block that is filled is the one that was missing.
-- Assumes nothing.
use Prim.Native.Nat.{ℕ, ◌<◌}
use native.Mathlib.Omega.{arith}
use lib.ListN.{get_or}
use Rattle.stripe.specs.Blocks.{block}
use Rattle.shelf.proofs.calls.RefillLaws.{still_few, refilled}
use Rattle.shelf.proofs.calls.SourceLaws.{other_by}
use Rattle.shelf.proofs.rebuild.refill_block.Goals as goal

pub solve_originals-requires-clause-recoverable : goal.solve_originals-requires-clause-recoverable
solve_originals-requires-clause-recoverable c =
    let v = c.args.view.now in
    let y = c.other_missing-y in
    still_few v.shelf v.list.now v.x c.args.i y.result c.max.result (other_by v.shelf v.list.now v.x v.from.now.missing c.args.i y.result v.sources_told.lacking y.ensures) c.max.ensures

pub returns : goal.returns
returns c =
    let a = c.args in
    let v = a.view.now in
    let y = c.other_missing-y in
    let bytes : (k : ℕ) → get_or a.array.now k 0 < 256 = λ k. omega (arith, c.type_inv.array k) in
    refilled v.shelf a.array.now v.log.now v.list.now c.requires.rebuildable v.x v.x_lt_s a.i c.requires.i_lt_d c.requires.filled_below c.requires.lost bytes y.result c.max.result
    (block v.shelf.geometry.b 0 c.solve_originals.new.scratch.work) (other_by v.shelf v.list.now v.x v.from.now.missing a.i y.result v.sources_told.lacking y.ensures) c.max.ensures
    c.solve_originals.ensures
