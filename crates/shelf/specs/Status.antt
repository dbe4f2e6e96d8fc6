-- The ten calls after format, and the numbers 4 to 14 and 16 that refuse them. Each row of the customer's tables is one definition, or one for each
-- condition that it names, in the order of the table; `code_of` says which rows a call tries. Of the shelf the rows look at the failed members, the
-- mode and the marked blocks only, so shelf and book are refused by the same definitions: marked are the shelf's listed blocks, or the book's marked
-- ones. Rows 1 to 3 and format stand in `Lent.antt`, the rows of the two stripe calls in the stripe crate.
-- Assumes nothing.
use Rattle.std.specs.Prelude.{Bool, true, false, not, ◌&&◌, ◌||◌, List, ℕ, ◌+◌, ◌*◌, eqb, ltb, leb, length}
use Rattle.shelf.specs.Counting.{count, any}
use Rattle.shelf.specs.Members.{array_members, log_member, all_members, member_at, addresses, wanted}
use Rattle.shelf.specs.State.{stale, marks_in}
use Rattle.shelf.specs.declared.record.Geometry.{Geometry}

-- A call with what its caller gives it: fail and put back a member; write an address, a count and the data; read (the plain read) and fetch (the
-- recovering one) an address, a count and the length of the caller's buffer. It is all that the book is fed.
pub data Call : Type 0 where
  start : Call
  fail : ℕ → Call
  put_back : ℕ → Call
  write : ℕ → ℕ → List ℕ → Call
  read : ℕ → ℕ → ℕ → Call
  fetch : ℕ → ℕ → ℕ → Call
  resync : Call
  rebuild : Call
  new_log : Call
  full_resync : Call

-- ---- the rows

-- 4: count 0, or address plus count above d * s
abbrev pub bad_address : Geometry → ℕ → ℕ → Bool
bad_address g a n = eqb n 0 || ltb (addresses g) (a + n)

-- 5: the caller's data are not count * b bytes
abbrev pub bad_data : Geometry → ℕ → ℕ → Bool
bad_data g n len = not (eqb len (n * g.b))

-- 6: the member's number is above the log's (fail), or the member is not one of the array (put back)
abbrev pub bad_member : Geometry → ℕ → Bool
bad_member g j = ltb (log_member g) j

abbrev pub not_of_array : Geometry → ℕ → Bool
not_of_array g j = leb (array_members g) j

-- 7: the mode is not 0 (start), or is 0 (resync)
abbrev pub not_normal : ℕ → Bool
not_normal mode = not (eqb mode 0)

abbrev pub is_normal : ℕ → Bool
is_normal mode = eqb mode 0

-- 8: an array member failed
abbrev pub array_failed : Geometry → (ℕ → Bool) → Bool
array_failed g f = any (array_members g) f

-- 9: the log failed
abbrev pub log_failed : Geometry → (ℕ → Bool) → Bool
log_failed g f = f (log_member g)

-- 10: the member has failed already
abbrev pub already_failed : (ℕ → Bool) → ℕ → Bool
already_failed f j = f j

-- 11: as many have failed already as there are parities
abbrev pub limit_reached : Geometry → (ℕ → Bool) → Bool
limit_reached g f = leb g.parities (count (all_members g) f)

-- 12: no array member failed (rebuild), the log is sound (new log), or the member is sound (put back)
abbrev pub array_sound : Geometry → (ℕ → Bool) → Bool
array_sound g f = not (array_failed g f)

abbrev pub log_sound : Geometry → (ℕ → Bool) → Bool
log_sound g f = not (log_failed g f)

abbrev pub member_sound : (ℕ → Bool) → ℕ → Bool
member_sound f j = not (f j)

-- 13: blocks are listed
abbrev pub some_listed : Geometry → (ℕ → ℕ → Bool) → Bool
some_listed g m = ltb 0 (marks_in g m)

-- 14: the log failed and a wanted block is on a failed disk in a stale stripe. For a fetch these are the blocks asked for, for a rebuild all data
-- blocks; parity blocks never count.
abbrev pub withheld : Geometry → (ℕ → Bool) → (ℕ → ℕ → Bool) → ℕ → ℕ → Bool
withheld g f m x i = log_failed g f && (f (member_at g x i) && stale g m x)

abbrev pub fetch_withheld : Geometry → (ℕ → Bool) → (ℕ → ℕ → Bool) → ℕ → ℕ → Bool
fetch_withheld g f m a n = any n (wanted g (withheld g f m) a)

abbrev pub data_withheld : Geometry → (ℕ → Bool) → (ℕ → ℕ → Bool) → Bool
data_withheld g f m = any g.s (λ x. any g.d (λ i. withheld g f m x i))

-- 16: a wanted block is on a failed disk
abbrev pub read_failed : Geometry → (ℕ → Bool) → ℕ → ℕ → Bool
read_failed g f a n = any n (wanted g (λ x i. f (member_at g x i)) a)

-- ---- which rows a call tries: from the top, and the first that applies is answered; 0 is accepted

unfoldable pub row : ℕ → Bool → ℕ → ℕ
row n true rest = n
row n false rest = rest

-- rows 4 and 5, of a call on n blocks from address a on with len bytes of the caller's data, and what is tried after them
abbrev pub block_rows : Geometry → ℕ → ℕ → ℕ → ℕ → ℕ
block_rows g a n len rest = row 4 (bad_address g a n) (row 5 (bad_data g n len) rest)

unfoldable pub code_of : Geometry → (ℕ → Bool) → ℕ → (ℕ → ℕ → Bool) → Call → ℕ
code_of g f mode m start = row 7 (not_normal mode) (row 8 (array_failed g f) (row 9 (log_failed g f) 0))
code_of g f mode m (fail j) = row 6 (bad_member g j) (row 10 (already_failed f j) (row 11 (limit_reached g f) 0))
code_of g f mode m (put_back j) = row 6 (not_of_array g j) (row 12 (member_sound f j) 0)
code_of g f mode m (write a n v) = block_rows g a n (length v) (row 8 (array_failed g f) 0)
code_of g f mode m (read a n len) = block_rows g a n len (row 16 (read_failed g f a n) 0)
code_of g f mode m (fetch a n len) = block_rows g a n len (row 14 (fetch_withheld g f m a n) 0)
code_of g f mode m resync = row 7 (is_normal mode) (row 8 (array_failed g f) 0)
code_of g f mode m rebuild = row 12 (array_sound g f) (row 14 (data_withheld g f m) 0)
code_of g f mode m new_log = row 12 (log_sound g f) (row 13 (some_listed g m) 0)
code_of g f mode m full_resync = row 8 (array_failed g f) 0
