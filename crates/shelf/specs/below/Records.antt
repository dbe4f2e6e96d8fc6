-- The record after each of the methods on it, and words for the contracts of the functions that decide numbers.
-- Assumes nothing.
use Rattle.std.specs.Prelude.{Bool, true, false, ℕ, ◌≤◌, ltb, set, replicate}
use Rattle.shelf.specs.Members.{member_at}
use Rattle.shelf.specs.Status.{Call, start, fail, put_back, write, read, fetch, resync, rebuild, new_log, full_resync, row, log_sound}
use Rattle.shelf.specs.Calls.{mode_without, next_left, mode_left, array_cleared}
use Rattle.shelf.specs.Lent.{flag_at, flags_of}
use Rattle.shelf.specs.declared.record.Geometry.{Geometry}
use Rattle.shelf.specs.declared.record.Shelf.{Shelf}
use Rattle.shelf.specs.declared.status.Request.{Request}
use Rattle.shelf.specs.declared.status.Request.TheVariants.{Start, Fail, PutBack, Write, Read, Fetch, Resync, Rebuild, NewLog, FullResync}

-- what is asked of the measures where only the number of members matters
abbrev pub Sized : Geometry → Type 0
Sized g = (g.d ≤ 16) × ((1 ≤ g.parities) × (g.parities ≤ 2))

abbrev pub with_mode : Shelf → ℕ → Shelf
with_mode r m = record { geometry = r.geometry; mode = m; next = r.next; listed = r.listed; failed = r.failed }

-- with member j failed: if it is the log, mode 1 becomes 2 when blocks are listed, else 0
abbrev pub mode_then : Shelf → ℕ → ℕ
mode_then r j = mode_without r.geometry j r.listed r.mode

abbrev pub with_failed : Shelf → ℕ → Shelf
with_failed r j =
    record { geometry = r.geometry; mode = mode_then r j; next = r.next; listed = r.listed; failed = set r.failed j true }

-- with the flag of member j cleared
abbrev pub with_renewed : Shelf → ℕ → Shelf
with_renewed r j = record { geometry = r.geometry; mode = r.mode; next = r.next; listed = r.listed; failed = set r.failed j false }

-- with n blocks left listed: where none is, the next free record becomes 0 and mode 2 becomes 0
abbrev pub with_listed : Shelf → ℕ → Shelf
with_listed r n =
    record { geometry = r.geometry; mode = mode_left n r.mode; next = next_left n r.next; listed = n; failed = r.failed }

-- with the next free record and n blocks listed, as a logged stripe leaves them
abbrev pub with_logged : Shelf → ℕ → ℕ → Shelf
with_logged r next n = record { geometry = r.geometry; mode = r.mode; next = next; listed = n; failed = r.failed }

-- with the flags of the array's members cleared
abbrev pub with_cleared : Shelf → Shelf
with_cleared r =
    record { geometry = r.geometry; mode = r.mode; next = r.next; listed = r.listed; failed = flags_of (array_cleared r.geometry (flag_at r)) }

-- the member that has role i in stripe x has failed
abbrev pub failed_role : Shelf → ℕ → ℕ → Bool
failed_role r x i = flag_at r (member_at r.geometry x i)

-- no block is marked: of rows that do not look at marks
abbrev pub unmarked : ℕ → ℕ → Bool
unmarked x i = false

-- the rows of new log, by the record's own count of listed blocks
abbrev pub new_log_rows : Shelf → ℕ
new_log_rows r = row 12 (log_sound r.geometry (flag_at r)) (row 13 (ltb 0 r.listed) 0)

-- the call that a request stands for. The rows look at the length of a write's data and at none of its bytes: zeros stand for them.
abbrev pub call_of : Request → Call
call_of Start = start
call_of (Fail j) = fail j
call_of (PutBack j) = put_back j
call_of (Write a n len) = write a n (replicate len 0)
call_of (Read a n len) = read a n len
call_of (Fetch a n len) = fetch a n len
call_of Resync = resync
call_of Rebuild = rebuild
call_of NewLog = new_log
call_of FullResync = full_resync
