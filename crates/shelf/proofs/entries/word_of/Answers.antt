-- `shelf::entries::word_of` meets its contract.
-- Assumes nothing.
use mathlib.Core.Path.{◌≡◌, refl, ◌∙◌}
use Prim.Native.Nat.{ℕ}
use Rattle.std.specs.Prelude.{Option, None, Some, unwrap_or}
use Rattle.shelf.specs.HashList.{none_word}
use Rattle.shelf.specs.Lent.{word_of}
use Rattle.shelf.proofs.entries.word_of.Goals as goal

word_is : (r : Option ℕ) → unwrap_or r none_word ≡ word_of r
unfolding word_of
word_is None = refl
word_is (Some r) = refl

pub returns : goal.returns
returns c = c.unwrap_or.ensures ∙ word_is c.args.r
