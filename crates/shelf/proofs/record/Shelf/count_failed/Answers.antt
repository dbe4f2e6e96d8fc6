-- `shelf::record::Shelf::count_failed` meets its contract.
-- Assumes nothing.
use mathlib.Core.Bool.{cond}
use mathlib.Core.Path.{◌≡◌, ◌∙◌}
use native.Mathlib.Omega.{arith}
use borrow.Author.Rules.{rules}
use borrow.Author.Tests.{tests}
use Prim.Native.Nat.{◌≤◌}
use Rattle.std.proofs.lemmas.Grind.{common_steps}
use Rattle.std.proofs.lemmas.Iterator.{YieldsList-from_slice, YieldsList-from_map}
use Rattle.std.proofs.lemmas.Iterator.Consumers.{YieldsList-at, fits_by_from_yields_list}
use Rattle.std.proofs.lemmas.List.Sums.{count_by-le-length}
use lib.ListN.{length, take}
use Rattle.std.specs.Prelude.{count_by}
use Rattle.shelf.proofs.numbers.ChainLaws.{count_flags}
use Rattle.shelf.proofs.record.Shelf.count_failed.Goals as goal

pub returns : goal.returns
returns c =
    let fs = c.args.self.failed in
    let long : length fs ≡ 19 = search rules in
    let counted : c.sum.result ≡ count_by (λ b. b) (take c.args.n fs) = search rules in
    counted ∙ count_flags fs c.args.n (omega arith)

pub sum-requires-clause-fits : goal.sum-requires-clause-fits
sum-requires-clause-fits c =
    let fs = c.args.self.failed in
    let long : length fs ≡ 19 = search rules in
    let few : length (take c.args.n fs) ≤ 19 = grind (arith, common_steps) in
    fits_by_from_yields_list (λ b. cond b 1 0) (take c.args.n fs) c.map.result _
    (YieldsList-from_map _ (λ b. cond b 1 0) (YieldsList-at c.map.ensures.source (YieldsList-from_slice (take c.args.n fs) cc)) c.map.ensures.closure (λ x r q k. search (rules, tests)))
    (omega (arith, few, count_by-le-length (λ b. b) (take c.args.n fs)))
