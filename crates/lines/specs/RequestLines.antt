-- Which bytes are a line that asks for a call (paper: a readable call line), and what it asks for.
-- Assumes nothing.
use Rattle.std.specs.Prelude.{cond, ◌&&◌, List, ℕ, Option, Some, None, eqb, leb, length, drop}
use Rattle.lines.specs.Names.{same, start_name, write_name, read_name, fetch_name, fail_name, resync_name, rebuild_name, new_log_name, full_name}
use Rattle.lines.specs.Fields.{fields, nth, number_of, all_values}
use Rattle.lines.specs.declared.requests.Request.{Request}
use Rattle.lines.specs.declared.requests.Request.TheVariants.{Start, Write, Read, Fetch, Fail, Resync, Rebuild, NewLog, FullResync}

-- a write's third value is its fill byte, at most 255
unfoldable pub write_of : ℕ → ℕ → ℕ → Option Request
write_of a b c = cond (leb c 255) (Some (Write a b c)) None

-- a name with three values; values that the call does not use are of no account, and a name that is none of the nine can't be read
unfoldable pub named : List ℕ → ℕ → ℕ → ℕ → Option Request
named name a b c =
    cond (same name start_name) (Some Start)
    (cond (same name write_name) (write_of a b c)
    (cond (same name read_name) (Some (Read a b))
    (cond (same name fetch_name) (Some (Fetch a b))
    (cond (same name fail_name) (Some (Fail a))
    (cond (same name resync_name) (Some Resync)
    (cond (same name rebuild_name) (Some Rebuild)
    (cond (same name new_log_name) (Some NewLog)
    (cond (same name full_name) (Some FullResync)
    None))))))))

-- four fields, a name and three values; with any other number of fields a line can't be read, nor where one of the three is no value
unfoldable pub request_of : List (List ℕ) → Option Request
request_of fs =
    cond (eqb (length fs) 4 && all_values (drop 1 fs))
    (named (nth fs 0) (number_of (nth fs 1)) (number_of (nth fs 2)) (number_of (nth fs 3)))
    None

-- what a line asks for
unfoldable pub request_line : List ℕ → Option Request
request_line line = request_of (fields line)
