-- `stripe::parity::make_own` meets its contract: the table of block numbers is right.
-- Assumes nothing.
use mathlib.Core.Path.{◌∙◌}
use Prim.Native.Nat.{◌+◌, ◌≤◌}
use lib.ListN.{length}
use borrow.Author.Rules.{rules}
use Rattle.stripe.specs.Places.{in_order, numbered}
use Rattle.stripe.proofs.PlaceLaws.{placed-whole, parity_made_ext}
use Rattle.stripe.proofs.parity.make_own.Goals as goal

pub make_at-requires-clause-placed : goal.make_at-requires-clause-placed
make_at-requires-clause-placed g c =
    let a = c.args in
    let table = c.own_numbers-ns in
    let long : a.d + g.row.K ≤ length table.result = search rules in
    placed-whole a.d g.row.K a.b (length a.stripe.now) table.result c.requires long table.ensures

pub returns : goal.returns
unfolding numbered
returns g c =
    let a = c.args in
    let table = c.own_numbers-ns in
    c.make_at.ensures ∙ parity_made_ext (numbered table.result) in_order a.d g.row.K a.b a.stripe.now table.ensures
