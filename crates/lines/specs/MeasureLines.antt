-- Which bytes are a line of measures, and which measures it says.
-- Assumes nothing.
use Rattle.std.specs.Prelude.{cond, ◌&&◌, List, ℕ, Option, Some, None, eqb, length}
use Rattle.lines.specs.Fields.{fields, nth, number_of, all_values}
use Rattle.lines.specs.declared.measures.Measures.{Measures}

-- six fields, each a value; with any other number of fields a line can't be read
unfoldable pub measures_of : List (List ℕ) → Option Measures
measures_of fs =
    cond (eqb (length fs) 6 && all_values fs)
    (Some (record {
      d = number_of (nth fs 0);
      s = number_of (nth fs 1);
      b = number_of (nth fs 2);
      l = number_of (nth fs 3);
      h = number_of (nth fs 4);
      e = number_of (nth fs 5);
    }))
    None

-- the measures that a line says
unfoldable pub measures_line : List ℕ → Option Measures
measures_line line = measures_of (fields line)
