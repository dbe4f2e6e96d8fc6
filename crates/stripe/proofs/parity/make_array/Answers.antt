-- `stripe::parity::make_array` meets its contract: the table of block numbers is right.
-- Assumes nothing.
use mathlib.Core.Path.{◌∙◌}
use Prim.Native.Nat.{◌+◌, ◌≤◌}
use lib.ListN.{length}
use borrow.Author.Rules.{rules}
use Rattle.stripe.specs.Places.{place, numbered}
use Rattle.stripe.proofs.PlaceLaws.{placed, parity_made_ext}
use Rattle.stripe.proofs.parity.make_array.Goals as goal

pub make_at-requires-clause-placed : goal.make_at-requires-clause-placed
make_at-requires-clause-placed g c =
    let a = c.args in
    let table = c.block_numbers-ns in
    let long : a.layout.d + g.row.K ≤ length table.result = search rules in
    placed a.layout.number a.layout.d g.row.K a.stripes a.x a.b (length a.array.now) table.result c.requires long table.ensures

pub returns : goal.returns
unfolding numbered
returns g c =
    let a = c.args in
    let table = c.block_numbers-ns in
    c.make_at.ensures ∙ parity_made_ext (numbered table.result) (place a.layout.number a.layout.d g.row.K a.stripes a.x) a.layout.d g.row.K a.b a.array.now table.ensures
