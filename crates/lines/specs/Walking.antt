-- Words for the contracts of functions that go through a line field by field, or put one together.
-- Assumes nothing.
use Rattle.std.specs.Prelude.{cond, ◌&&◌, List, ◌++◌, ◌≡◌, ℕ, Option, Some, None, ◌+◌, eqb, length, map, take, drop}
use Rattle.lines.specs.Fields.{number_of, is_value, all_values}

-- the number of a field that is a value
unfoldable pub value_of : List ℕ → Option ℕ
value_of f = cond (is_value f) (Some (number_of f)) None

-- the numbers of n fields that are values
unfoldable pub values_of : ℕ → List (List ℕ) → Option (List ℕ)
values_of n fs = cond (eqb (length fs) n && all_values fs) (Some (map number_of fs)) None

-- text was put into a buffer from an index on, and ends at end; all else stays
pub record Puts (before : List ℕ) (at : ℕ) (text after : List ℕ) (end : ℕ) : Type 0 where
  pub ends : end ≡ at + length text
  pub holds : after ≡ take at before ++ (text ++ drop end before)
