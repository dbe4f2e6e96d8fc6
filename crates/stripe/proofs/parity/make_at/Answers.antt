-- `stripe::parity::make_at` meets its contract: the table of offsets is right.
-- Assumes nothing.
use Prim.Native.Nat.{◌+◌, ◌≤◌}
use lib.ListN.{length}
use borrow.Author.Rules.{rules}
use Rattle.stripe.proofs.ParityLaws.{held-within, starts_span, starts_disjoint, partly_all}
use Rattle.stripe.proofs.parity.make_at.Goals as goal

pub block_starts-starts-requires-clause-held : goal.block_starts-starts-requires-clause-held
block_starts-starts-requires-clause-held g c =
    let a = c.args in
    let small : length a.array.now ≤ 18446744073709551615 = search rules in
    held-within (a.d + g.row.K) a.b (length a.array.now) 18446744073709551615 a.ns.now small c.requires.placed

pub make_columns-requires-clause-spans : goal.make_columns-requires-clause-spans
make_columns-requires-clause-spans g c =
    let a = c.args in
    let table = c.block_starts-starts in
    let roles = c.requires.roles in
    let long : a.d + g.row.K ≤ length table.result = search rules in
    starts_span (a.d + g.row.K) a.b (length a.array.now) a.ns.now table.result c.requires.placed table.ensures long

pub make_columns-requires-clause-disjoint : goal.make_columns-requires-clause-disjoint
make_columns-requires-clause-disjoint g c =
    let a = c.args in
    let table = c.block_starts-starts in
    starts_disjoint (a.d + g.row.K) a.b (length a.array.now) a.ns.now table.result c.requires.placed table.ensures

pub returns : goal.returns
returns g c =
    let a = c.args in
    let table = c.block_starts-starts in
    partly_all a.ns.now table.result a.d g.row.K a.b a.array.now c.requires.placed table.ensures _ c.make_columns.ensures c.requires.le_b
