-- The bench program's own rules: the geometry of its shelf, the room that it has, the data of a call, and what comes of a request.
-- Assumes nothing.
use Rattle.std.specs.Prelude.{Bool, true, false, cond, not, ◌&&◌, List, ◌≡◌, ℕ, Option, Some, None, ◌+◌, ◌*◌, eqb, leb, get_or, take, replicate}
use Rattle.lines.specs.declared.measures.Measures.{Measures}
use Rattle.lines.specs.declared.answers.Answer.{Answer}
use Rattle.lines.specs.declared.requests.Request.{Request}
use Rattle.shelf.specs.Status.{Call, start, fail, write, read, fetch, resync, rebuild, new_log, full_resync}
use Rattle.shelf.specs.Lent.{Lent, lent, bad_measures, array_length, log_length, list_length, state_of, read_buffer, fetch_buffer, Answered}
use Rattle.shelf.specs.declared.record.Geometry.{Geometry}
use Rattle.shelf.specs.declared.record.Shelf.{Shelf}
use Rattle.bench.specs.declared.calls.Outcome.{Outcome}

-- the geometry that measures say, in the fixed layout, with two parities; where they can't be read the six are zeros, which are out of range
unfoldable pub geometry_of : Option Measures → Geometry
geometry_of (Some m) = record { d = m.d; s = m.s; b = m.b; l = m.l; h = m.h; e = m.e; layout = 0; parities = 2 }
geometry_of None = record { d = 0; s = 0; b = 0; l = 0; h = 0; e = 0; layout = 0; parities = 2 }

-- measures in range, and array, log and list together at most 32,768 bytes
unfoldable pub fits : Geometry → Bool
fits g = not (bad_measures g) && leb (array_length g + log_length g + list_length g) 32768

-- a shelf in the program's buffers: of each the first bytes, as many as its geometry takes
abbrev pub lent_parts : Shelf → List ℕ → List ℕ → List ℕ → Lent
lent_parts r a n l = lent r (take (array_length r.geometry) a) (take (log_length r.geometry) n) (take (list_length r.geometry) l)

-- how many of n bytes are lent as the data of count blocks of b bytes: all that they take, or none where n bytes are too few
unfoldable pub data_length : ℕ → ℕ → ℕ → ℕ
data_length count b n = cond (leb (count * b) n) (count * b) 0

-- the call that reads: the plain read, or the recovering one
abbrev pub read_call : Bool → ℕ → ℕ → ℕ → Call
read_call false a count len = read a count len
read_call true a count len = fetch a count len

-- the first byte of what is handed over with this code; 0 where the call is refused
unfoldable pub first_read : ℕ → List ℕ → ℕ
first_read code out = cond (eqb code 0) (get_or out 0 0) 0

-- what comes of a request on what is lent: the code, the first byte read (0 if none), and what is left. The shelf's call is answered, a write's data
-- being count blocks of the fill byte v, the buffer of a read or a fetch count blocks long; a line that can't be read gets 15 and changes nothing.
unfoldable pub Performed : Option Request → Lent → ℕ → ℕ → Lent → Type 0
Performed (Some Request.Start) h code first h' = Answered h start code h' × (first ≡ 0)
Performed (Some (Request.Write a count v)) h code first h' =
    Answered h (write a count (replicate (count * h.shelf.geometry.b) v)) code h' × (first ≡ 0)
Performed (Some (Request.Read a count)) h code first h' =
    Answered h (read a count (count * h.shelf.geometry.b)) code h' × (first ≡ first_read code (read_buffer h.shelf.geometry (state_of h) a count))
Performed (Some (Request.Fetch a count)) h code first h' =
    Answered h (fetch a count (count * h.shelf.geometry.b)) code h' × (first ≡ first_read code (fetch_buffer h.shelf.geometry (state_of h) a count))
Performed (Some (Request.Fail j)) h code first h' = Answered h (fail j) code h' × (first ≡ 0)
Performed (Some Request.Resync) h code first h' = Answered h resync code h' × (first ≡ 0)
Performed (Some Request.Rebuild) h code first h' = Answered h rebuild code h' × (first ≡ 0)
Performed (Some Request.NewLog) h code first h' = Answered h new_log code h' × (first ≡ 0)
Performed (Some Request.FullResync) h code first h' = Answered h full_resync code h' × (first ≡ 0)
Performed None h code first h' = (code ≡ 15) × ((first ≡ 0) × (h' ≡ h))

-- the answer that is written of an outcome: its code, the record's mode, listed and next after it, the first byte
abbrev pub answer_of : Outcome → Answer
answer_of o = record { code = o.code; mode = o.shelf.mode; listed = o.shelf.listed; next = o.shelf.next; first = o.first }
