-- What is kept of a line that comes byte by byte, in a buffer of fixed length.
-- Assumes nothing.
use Rattle.std.specs.Prelude.{Bool, true, false, ◌&&◌, List, [], ◌∷◌, ◌++◌, ◌≡◌, ℕ, Option, Some, None, ◌≤◌, ◌<◌, eqb, length}
use Rattle.lines.specs.Fields.{is_digit}

-- whether a text begins with a digit
unfoldable pub on_digit : List ℕ → Bool
on_digit [] = false
on_digit (x ∷ t) = is_digit x

-- whether a byte is dropped that stands at the start of a field, or within one, before a text: a zero (48) at the start, before a digit
abbrev pub drops : Bool → ℕ → List ℕ → Bool
drops start x t = start && (eqb x 48 && on_digit t)

-- what is kept of a text that begins at the start of a field, or within one; a digit before which a zero is dropped is then at the start,
-- and so is what comes after a blank (32)
unfoldable pub kept_from : Bool → List ℕ → List ℕ
kept_from start [] = []
kept_from start (x ∷ t) = elim (drops start x t) [ true ↦ kept_from true t | false ↦ x ∷ kept_from (eqb x 32) t ]

-- what is kept of a line, whole or as far as it has come
unfoldable pub kept : List ℕ → List ℕ
kept t = kept_from true t

-- whether the last field of a text that begins at the start of a field, or within one, is one zero
unfoldable pub last_zero : Bool → List ℕ → Bool
last_zero start [] = false
last_zero start (x ∷ []) = start && eqb x 48
last_zero start (x ∷ y ∷ t) = last_zero (eqb x 32) (y ∷ t)

-- how many bytes a buffer has
abbrev pub room : ℕ
room = 128

-- what a buffer holds of a text: what is kept of it; or nothing, where that does not fit
pub data Keeps (held : Option (List ℕ)) (t : List ℕ) : Type 0 where
  fits : length (kept t) ≤ room → held ≡ Some (kept t) → Keeps held t
  over : room < length (kept t) → held ≡ None → Keeps held t

-- a buffer takes the byte x: where it kept a text before, it keeps the text with x behind it after
abbrev pub Extends : Option (List ℕ) → ℕ → Option (List ℕ) → Type 0
Extends before x after = (t : List ℕ) → Keeps before t → Keeps after (t ++ (x ∷ []))

-- it takes some bytes, one after another
abbrev pub ExtendsBy : Option (List ℕ) → List ℕ → Option (List ℕ) → Type 0
ExtendsBy before xs after = (t : List ℕ) → Keeps before t → Keeps after (t ++ xs)

-- what is handed on as a line: all that is held, or nothing where it does not fit
unfoldable pub fitting : Option (List ℕ) → List ℕ
fitting (Some k) = k
fitting None = []
