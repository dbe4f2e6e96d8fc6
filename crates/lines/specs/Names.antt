-- The names of calls as bytes, as they stand in lines that are read and written, and the other words of lines that are written.
-- Assumes nothing.
use Rattle.std.specs.Prelude.{Bool, true, false, ◌&&◌, List, [], ◌∷◌, ℕ, eqb}

-- whether two names are the same, byte by byte
unfoldable pub same : List ℕ → List ℕ → Bool
same [] [] = true
same [] (y ∷ ys) = false
same (x ∷ xs) [] = false
same (x ∷ xs) (y ∷ ys) = eqb x y && same xs ys

-- ---- calls that a line can ask for

-- `start`
abbrev pub start_name : List ℕ
start_name = 115 ∷ 116 ∷ 97 ∷ 114 ∷ 116 ∷ []

-- `write`
abbrev pub write_name : List ℕ
write_name = 119 ∷ 114 ∷ 105 ∷ 116 ∷ 101 ∷ []

-- `read`
abbrev pub read_name : List ℕ
read_name = 114 ∷ 101 ∷ 97 ∷ 100 ∷ []

-- `fetch`
abbrev pub fetch_name : List ℕ
fetch_name = 102 ∷ 101 ∷ 116 ∷ 99 ∷ 104 ∷ []

-- `fail`
abbrev pub fail_name : List ℕ
fail_name = 102 ∷ 97 ∷ 105 ∷ 108 ∷ []

-- `resync`
abbrev pub resync_name : List ℕ
resync_name = 114 ∷ 101 ∷ 115 ∷ 121 ∷ 110 ∷ 99 ∷ []

-- `rebuild`
abbrev pub rebuild_name : List ℕ
rebuild_name = 114 ∷ 101 ∷ 98 ∷ 117 ∷ 105 ∷ 108 ∷ 100 ∷ []

-- `newlog`
abbrev pub new_log_name : List ℕ
new_log_name = 110 ∷ 101 ∷ 119 ∷ 108 ∷ 111 ∷ 103 ∷ []

-- `full`
abbrev pub full_name : List ℕ
full_name = 102 ∷ 117 ∷ 108 ∷ 108 ∷ []

-- ---- words of answers alone

-- `bad`
abbrev pub bad_name : List ℕ
bad_name = 98 ∷ 97 ∷ 100 ∷ []

-- `format`
abbrev pub format_name : List ℕ
format_name = 102 ∷ 111 ∷ 114 ∷ 109 ∷ 97 ∷ 116 ∷ []
