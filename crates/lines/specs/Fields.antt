-- A line as fields, cut at its blanks, and the values of fields.
-- Assumes nothing.
use Rattle.std.specs.Prelude.{Bool, true, false, ◌&&◌, List, [], ◌∷◌, ℕ, ◌+◌, ◌*◌, ◌-◌, ◌^◌, eqb, ltb, leb, length, get_or}

-- the fields of a line that begins with byte x, out of those of the rest, by whether x is a blank: a blank ends an empty field, any other
-- byte is in the first one (a line has at least one)
unfoldable pub begun : Bool → ℕ → List (List ℕ) → List (List ℕ)
begun true x fs = [] ∷ fs
begun false x [] = (x ∷ []) ∷ []
begun false x (f ∷ fs) = (x ∷ f) ∷ fs

-- a line split by single blanks: each blank (32) ends a field, so that two of them, or one at an end of the line, leave an empty one
unfoldable pub fields : List ℕ → List (List ℕ)
fields [] = [] ∷ []
fields (x ∷ line) = begun (eqb x 32) x (fields line)

-- field k of some, counted from 0
abbrev pub nth : List (List ℕ) → ℕ → List ℕ
nth fs k = get_or fs k []

-- `0` to `9`
unfoldable pub is_digit : ℕ → Bool
is_digit x = leb 48 x && leb x 57

unfoldable pub all_digits : List ℕ → Bool
all_digits [] = true
all_digits (x ∷ xs) = is_digit x && all_digits xs

-- the number that digits tell in decimal
unfoldable pub number_of : List ℕ → ℕ
number_of [] = 0
number_of (x ∷ xs) = (x - 48) * 10 ^ length xs + number_of xs

-- 2 to the 32nd
abbrev pub limit : ℕ
limit = 4294967296

-- whether a field is a value: decimal, one digit or more and nothing else, zeros in front allowed; and below 2 to the 32nd
unfoldable pub is_value : List ℕ → Bool
is_value f = ltb 0 (length f) && (all_digits f && ltb (number_of f) limit)

unfoldable pub all_values : List (List ℕ) → Bool
all_values [] = true
all_values (f ∷ fs) = is_value f && all_values fs
