-- `shelf::record::Shelf::any_failed` meets its contract.
-- Assumes nothing.
use mathlib.Core.Bool.{false, ◌||◌}
use mathlib.Core.Path.{◌≡◌, ◌∙◌, ap}
use native.Mathlib.Omega.{arith}
use borrow.Author.Rules.{rules}
use borrow.Author.Tests.{tests}
use Rattle.std.proofs.lemmas.Iterator.{YieldsList-from_slice}
use Rattle.std.proofs.lemmas.Iterator.Consumers.{fold_from_yields_List}
use Prim.Native.Nat.{ℕ, ◌-◌}
use lib.ListN.{length, take, drop}
use Rattle.std.specs.List.{fold}
use Rattle.shelf.specs.Counting.{any}
use Rattle.shelf.specs.Lent.{flag_from}
use Rattle.shelf.proofs.numbers.ChainLaws.{folded_flags}
use Rattle.shelf.proofs.record.Shelf.any_failed.Goals as goal

pub returns : goal.returns
returns c =
    let fs = c.args.self.failed in
    let low = c.args.low in
    let long : length fs ≡ 19 = search rules in
    let found : c.fold.result ≡ fold ◌||◌ false (take (c.args.high - low) (drop low fs)) =
    fold_from_yields_List _ ◌||◌ false c.fold.result c.fold.ensures.ran (YieldsList-from_slice (take (c.args.high - low) (drop low fs)) cc) (λ a x b q k. search (rules, tests)) in
    found ∙ folded_flags fs low (c.args.high - low) (omega arith) ∙ ap (λ (n : ℕ). any n (flag_from fs low)) (omega arith)
