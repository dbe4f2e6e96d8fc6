-- The lines that are written of answers: a name, and numbers in decimal.
-- Assumes nothing.
use Rattle.std.specs.Prelude.{true, false, List, [], ◌∷◌, ◌++◌, ℕ, Option, Some, None, zero, suc, ◌+◌, ◌/◌, ◌%◌, ltb}
use Rattle.lines.specs.Names.{start_name, write_name, read_name, fetch_name, fail_name, resync_name, rebuild_name, new_log_name, full_name, bad_name, format_name}
use Rattle.lines.specs.declared.requests.Request.{Request}
use Rattle.lines.specs.declared.requests.Request.TheVariants.{Start, Write, Read, Fetch, Fail, Resync, Rebuild, NewLog, FullResync}
use Rattle.lines.specs.declared.answers.Answer.{Answer}

-- the decimal digits of n, where k digits more than one are enough
unfoldable pub digits : ℕ → ℕ → List ℕ
digits zero n = (48 + n % 10) ∷ []
digits (suc k) n = elim (ltb n 10) [ true ↦ (48 + n) ∷ [] | false ↦ digits k (n / 10) ++ ((48 + n % 10) ∷ []) ]

-- a number in decimal, with no digit more than it takes (n + 1 digits are always enough)
unfoldable pub decimal : ℕ → List ℕ
decimal n = digits n n

-- numbers in decimal, a blank (32) before each, then the newline (10)
unfoldable pub spelled : List ℕ → List ℕ
spelled [] = 10 ∷ []
spelled (n ∷ ns) = 32 ∷ (decimal n ++ spelled ns)

-- the name of what was asked for; `bad` of a line that can't be read
unfoldable pub name_of : Option Request → List ℕ
name_of (Some Start) = start_name
name_of (Some (Write a n v)) = write_name
name_of (Some (Read a n)) = read_name
name_of (Some (Fetch a n)) = fetch_name
name_of (Some (Fail j)) = fail_name
name_of (Some Resync) = resync_name
name_of (Some Rebuild) = rebuild_name
name_of (Some NewLog) = new_log_name
name_of (Some FullResync) = full_name
name_of None = bad_name

-- an answer's numbers in the order of the columns: code, mode, listed, next, first
unfoldable pub columns : Answer → List ℕ
columns a = a.code ∷ a.mode ∷ a.listed ∷ a.next ∷ a.first ∷ []

-- the line of an answer to a request, and of format's
unfoldable pub answer_line : Option Request → Answer → List ℕ
answer_line r a = name_of r ++ spelled (columns a)

unfoldable pub format_line : ℕ → List ℕ
format_line code = format_name ++ spelled (code ∷ 0 ∷ 0 ∷ 0 ∷ 0 ∷ [])

-- the line of the columns' names, `call code mode listed next first`
unfoldable pub columns_line : List ℕ
columns_line = 99 ∷ 97 ∷ 108 ∷ 108 ∷ 32 ∷ 99 ∷ 111 ∷ 100 ∷ 101 ∷ 32 ∷ 109 ∷ 111 ∷ 100 ∷ 101 ∷ 32 ∷ 108 ∷ 105 ∷ 115 ∷ 116 ∷ 101 ∷ 100 ∷ 32 ∷ 110 ∷ 101 ∷ 120 ∷ 116 ∷ 32 ∷ 102 ∷ 105 ∷ 114 ∷ 115 ∷ 116 ∷ 10 ∷ []
