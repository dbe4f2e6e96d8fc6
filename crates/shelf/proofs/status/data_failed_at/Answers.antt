-- `shelf::status::data_failed_at` meets its contract.
-- Assumes nothing.
use mathlib.Core.Path.{◌∙◌, refl}
use native.Mathlib.Omega.{arith}
use borrow.Author.Rules.{rules}
use borrow.Author.Tests.{tests}
use Rattle.std.proofs.lemmas.Iterator.{YieldsList-from_range}
use Rattle.std.proofs.lemmas.Iterator.Search.{any_from_yields_List}
use Rattle.shelf.specs.below.Records.{failed_role}
use Rattle.shelf.proofs.numbers.ChainLaws.{any_below}
use Rattle.shelf.proofs.status.data_failed_at.Goals as goal

pub returns : goal.returns
returns c =
    let d = c.args.shelf.geometry.d in
    let fails = failed_role c.args.shelf c.args.x in
    any_from_yields_List fails _ _ c.any.result c.any.ensures.ran (YieldsList-from_range 0 d d refl (omega arith)) (λ x b q k. search (rules, tests))
    ∙ any_below fails d
