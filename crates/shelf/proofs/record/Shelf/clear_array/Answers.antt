-- `shelf::record::Shelf::clear_array` meets its contract.
-- Assumes nothing.
use mathlib.Core.Path.{◌≡◌}
use native.Mathlib.Omega.{arith}
use borrow.Author.Rules.{rules}
use Prim.Native.Nat.{◌<◌}
use lib.ListN.{length}
use Rattle.std.proofs.lemmas.Grind.{common_steps}
use Rattle.shelf.proofs.numbers.ChainLaws.{cleared_is}
use Rattle.shelf.proofs.record.Shelf.clear_array.Goals as goal

pub returns : goal.returns
returns c =
    let m = c.array_members-members.result in
    let long : length c.args.self.failed ≡ 19 = search rules in
    let few : m < 19 = omega (arith, c.requires, c.array_members-members.ensures) in
    cleared_is c.args.self m _ long c.array_members-members.ensures (omega arith) (search (rules, common_steps))
