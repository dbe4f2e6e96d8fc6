-- What the list says of the blocks of a stripe, as the code has it: a table, by data index, of the log records of original and latest value.
-- Assumes nothing.
use Rattle.std.specs.Prelude.{Bool, not, ◌||◌, List, ◌≡◌, ℕ, ◌<◌, Option, None, get_or}
use Rattle.std.specs.Option.{option_or}
use Rattle.shelf.specs.Counting.{choose}
use Rattle.shelf.specs.Members.{address_of}
use Rattle.shelf.specs.State.{is_some}
use Rattle.shelf.specs.Words.{words}
use Rattle.shelf.specs.HashList.{said}
use Rattle.shelf.specs.Lent.{record_at}
use Rattle.shelf.specs.declared.record.Geometry.{Geometry}
use Rattle.shelf.specs.declared.entries.Records.{Records}

-- the records of a block that is not listed
abbrev pub no_records : Records
no_records = record { ori = None; cur = None }

-- the records of data index i in a table of them
abbrev pub records_in : List Records → ℕ → Records
records_in es i = get_or es i no_records

-- what the words of a list say of address a
abbrev pub records_of : List ℕ → Geometry → ℕ → Records
records_of w g a = record { ori = record_at (said w g a).ori; cur = record_at (said w g a).cur }

-- the entries of stripe x: what the list says of each of its blocks
abbrev pub EntriesOf : Geometry → List ℕ → ℕ → List Records → Type 0
EntriesOf g l x es = (i : ℕ) → i < g.d → records_in es i ≡ records_of (words l) g (address_of g x i)

-- a block is listed where it has one of the two records
abbrev pub is_listed : Records → Bool
is_listed r = is_some r.ori || is_some r.cur

abbrev pub listed_in : List Records → ℕ → Bool
listed_in es i = is_listed (records_in es i)

-- the record of the latest value: Cur, else Ori, else none
abbrev pub latest : Records → Option ℕ
latest r = option_or r.cur r.ori

-- whether the original is missing: a listed block's that lacks Ori, another's where it is lost
abbrev pub is_missing : Records → Bool → Bool
is_missing r lost = choose (is_listed r) (not (is_some r.ori)) lost
