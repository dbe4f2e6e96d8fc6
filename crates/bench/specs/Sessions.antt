-- A session of the bench program: the lines that its input holds, what is made of each in its turn, and what is written of it. The input comes in pieces;
-- of each it is said which lines end in it, whatever the pieces are.
-- Assumes nothing.
use Rattle.std.specs.Prelude.{Bool, true, false, cond, List, [], ◌∷◌, ◌++◌, ◌≡◌, ℕ, Option, Some, None, ◌≤◌, eqb, length, take}
use Rattle.lines.specs.declared.measures.Measures.{Measures}
use Rattle.lines.specs.MeasureLines.{measures_line}
use Rattle.lines.specs.RequestLines.{request_line}
use Rattle.lines.specs.AnswerLines.{answer_line, format_line, columns_line}
use Rattle.lines.specs.Held.{Keeps}
use Rattle.shelf.specs.Counting.{choose}
use Rattle.shelf.specs.Lent.{Lent, formatted}
use Rattle.bench.specs.Bench.{geometry_of, fits, Performed, answer_of}
use Rattle.bench.specs.declared.session.Session.{Session}
use Rattle.bench.specs.declared.session.Stage.{Stage}

-- ---- the lines of the input

-- The lines that end among some bytes, each at a newline (10), of which the first goes on from what is held of it; and what is held after them, the
-- bytes behind the last newline.
unfoldable pub lines_from : List ℕ → List ℕ → List (List ℕ)
lines_from held [] = []
lines_from held (x ∷ xs) = elim (eqb x 10) [ true ↦ held ∷ lines_from [] xs | false ↦ lines_from (held ++ (x ∷ [])) xs ]

unfoldable pub held_after : List ℕ → List ℕ → List ℕ
held_after held [] = held
held_after held (x ∷ xs) = elim (eqb x 10) [ true ↦ held_after [] xs | false ↦ held_after (held ++ (x ∷ [])) xs ]

-- what is held at the end of the input is a line too, though no newline ends it, unless it is empty
unfoldable pub last_line : List ℕ → List (List ℕ)
last_line [] = []
last_line (x ∷ held) = (x ∷ held) ∷ []

-- the lines of a whole input
unfoldable pub all_lines : List ℕ → List (List ℕ)
all_lines input = lines_from [] input ++ last_line (held_after [] input)

-- ---- one line

-- the number in format's line: 1 for measures that can't be read, for bad ones, and for a shelf that has no room; else 0
unfoldable pub format_number : Option Measures → ℕ
format_number (Some m) = cond (fits (geometry_of (Some m))) 0 1
format_number None = 1

-- A line of measures: format's line is written. With number 0 a fresh shelf is lent, and calls come after a second line of names; else no line is
-- answered any more.
pub record Opens (line : List ℕ) (h : Lent) (text : List ℕ) (s : Stage) (h' : Lent) : Type 0 where
  pub written : text ≡ format_line (format_number (measures_line line))
  pub stage : s ≡ choose (eqb (format_number (measures_line line)) 0) Stage.CallNames Stage.Refused
  pub shelf : h' ≡ choose (eqb (format_number (measures_line line)) 0) (formatted (geometry_of (measures_line line))) h

-- A line that asks for a call, or that can't be read: what it asks for is performed, and the line of its answer is written.
pub record Answers (line : List ℕ) (h : Lent) (text : List ℕ) (s : Stage) (h' : Lent) : Type 0 where
  pub code : ℕ
  pub first : ℕ
  pub performed : Performed (request_line line) h code first h'
  pub written : text ≡ answer_line (request_line line) (answer_of (record { code = code; first = first; shelf = h'.shelf }))
  pub stage : s ≡ Stage.Calls

-- A line that is skipped: nothing is written, and the shelf stays.
pub record Skips (next : Stage) (h : Lent) (text : List ℕ) (s : Stage) (h' : Lent) : Type 0 where
  pub written : text ≡ []
  pub stage : s ≡ next
  pub shelf : h' ≡ h

-- What is made of a line at each stage: names, measures, names again, then calls; nothing after measures that were refused.
unfoldable pub Takes : List ℕ → Stage → Lent → List ℕ → Stage → Lent → Type 0
Takes line Stage.MeasureNames h text s h' = Skips Stage.Measures h text s h'
Takes line Stage.Measures h text s h' = Opens line h text s h'
Takes line Stage.CallNames h text s h' = Skips Stage.Calls h text s h'
Takes line Stage.Calls h text s h' = Answers line h text s h'
Takes line Stage.Refused h text s h' = Skips Stage.Refused h text s h'

-- ---- some lines

-- Each line is taken in its order, and what is written of them is written in that order.
pub data Transcript : List (List ℕ) → Stage → Lent → List ℕ → Stage → Lent → Type 0 where
  no_lines : {s : Stage} {h : Lent} → Transcript [] s h [] s h
  one_more : {line : List ℕ} {lines : List (List ℕ)} {s s'' : Stage} {h h'' : Lent} (text : List ℕ) {rest : List ℕ} (s' : Stage) (h' : Lent) → Takes line s h text s' h'
      → Transcript lines s' h' rest s'' h'' → Transcript (line ∷ lines) s h (text ++ rest) s'' h''

-- no line is answered any more
unfoldable pub is_refused : Stage → Bool
is_refused Stage.MeasureNames = false
is_refused Stage.Measures = false
is_refused Stage.CallNames = false
is_refused Stage.Calls = false
is_refused Stage.Refused = true

-- what is written at the end of the input: format's refusal, where no measures came; a second line of names may be missing
unfoldable pub closing : Stage → List ℕ
closing Stage.MeasureNames = format_line (format_number None)
closing Stage.Measures = format_line (format_number None)
closing Stage.CallNames = []
closing Stage.Calls = []
closing Stage.Refused = []

-- What is written of a whole input: the names of the columns, what is written of each of its lines, taken in their order from the first stage on, and
-- what is written at its end.
pub record Written (input : List ℕ) (h : Lent) (output : List ℕ) : Type 0 where
  pub stage : Stage
  pub shelf : Lent
  pub text_of_lines : List ℕ
  pub transcript : Transcript (all_lines input) Stage.MeasureNames h text_of_lines stage shelf
  pub is : output ≡ columns_line ++ (text_of_lines ++ closing stage)

-- ---- in the program

-- a session before its first line
abbrev pub Opened : Session → Type 0
Opened s = (s.stage ≡ Stage.MeasureNames) × (s.line ≡ Some [])

-- What is to be made of a line was made: n bytes of text are in out, and stage and shelf are those after it.
pub record Taking (Made : List ℕ → Stage → Lent → Type 0) (r : Session) (n : ℕ) (out : List ℕ) : Type 0 where
  pub made : Made (take n out) r.stage r.room
  pub few : n ≤ 128

-- A piece of the input was taken: every line that ends in it, in its order, of which n bytes are written in out, and what is behind the last newline is kept.
pub record Feeds (input : List ℕ) (from r : Session) (n : ℕ) (out : List ℕ) : Type 0 where
  pub within : n ≤ length out
  pub transcript : (t : List ℕ) → Keeps from.line t → Transcript (lines_from t input) from.stage from.room (take n out) r.stage r.room
  pub keeps : (t : List ℕ) → Keeps from.line t → Keeps r.line (held_after t input)

-- At the end of the input the line that is begun was taken, if a byte of it came.
abbrev pub Ends : Session → Stage → Lent → List ℕ → Type 0
Ends from s h' text = (t : List ℕ) → Keeps from.line t → Transcript (last_line t) from.stage from.room text s h'

-- And then what is written at the end.
pub record Closes (from : Session) (text : List ℕ) : Type 0 where
  pub stage : Stage
  pub shelf : Lent
  pub text_of_line : List ℕ
  pub ends : Ends from stage shelf text_of_line
  pub written : text ≡ text_of_line ++ closing stage
