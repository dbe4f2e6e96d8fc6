-- What a check answers, as the number that the tables of `Status.antt` and `Lent.antt` have for it.
-- Assumes nothing.
use Rattle.std.specs.Prelude.{ℕ, Result, Ok, Err}
use Rattle.shelf.specs.declared.status.Refusal.{Refusal}
use Rattle.shelf.specs.declared.status.Refusal.TheVariants.{BadRecord, BadLength, BadList, BadAddress, BadData, BadMember, WrongMode, ArrayFailed, LogFailed, AlreadyFailed, LimitReached, NotFailed, Listed, Withheld, BlockFailed}

-- the number of a refusal
abbrev pub refusal_number : Refusal → ℕ
refusal_number BadRecord = 1
refusal_number BadLength = 2
refusal_number BadList = 3
refusal_number BadAddress = 4
refusal_number BadData = 5
refusal_number BadMember = 6
refusal_number WrongMode = 7
refusal_number ArrayFailed = 8
refusal_number LogFailed = 9
refusal_number AlreadyFailed = 10
refusal_number LimitReached = 11
refusal_number NotFailed = 12
refusal_number Listed = 13
refusal_number Withheld = 14
refusal_number BlockFailed = 16

-- the number of an answer: 0 where the check passes
abbrev pub number : Result Unit Refusal → ℕ
number (Ok _) = 0
number (Err refusal) = refusal_number refusal
