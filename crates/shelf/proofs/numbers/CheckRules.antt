-- What `grind` needs to go from rows 1 to 3 to the rows of a call: they are answered where they refuse, and passed over where they do not.
-- Assumes nothing.
use mathlib.Core.Bool.{Bool}
use mathlib.Core.List.{List}
use mathlib.Core.Path.{◌≡◌, sym}
use Prim.Native.Nat.{ℕ, ◌≤◌}
use native.Mathlib.Omega.{arith}
use Rattle.std.proofs.lemmas.Bool.Decides.{nat_tests}
use Rattle.shelf.specs.Lent.{input_rows}
use Rattle.shelf.specs.below.Refusals.{refusal_number}
use Rattle.shelf.specs.declared.record.Shelf.{Shelf}
use Rattle.shelf.specs.declared.status.Refusal.{Refusal}
use Rattle.shelf.specs.declared.status.Refusal.TheVariants.{BadRecord, BadLength, BadList, BadAddress, BadData, BadMember, WrongMode, ArrayFailed, LogFailed, AlreadyFailed, LimitReached, NotFailed, Listed, Withheld, BlockFailed}
use Rattle.shelf.proofs.numbers.InputLaws.{inputs_then, inputs_refuse}

-- a refusal has no number 0
pub refused_above : (x : Refusal) → 1 ≤ refusal_number x
refused_above BadRecord = omega arith
refused_above BadLength = omega arith
refused_above BadList = omega arith
refused_above BadAddress = omega arith
refused_above BadData = omega arith
refused_above BadMember = omega arith
refused_above WrongMode = omega arith
refused_above ArrayFailed = omega arith
refused_above LogFailed = omega arith
refused_above AlreadyFailed = omega arith
refused_above LimitReached = omega arith
refused_above NotFailed = omega arith
refused_above Listed = omega arith
refused_above Withheld = omega arith
refused_above BlockFailed = omega arith

pub inputs_passed : (r : Shelf) (na nl : ℕ) (l : List ℕ) (three : Bool) (rest : ℕ) → input_rows r na nl l three 0 ≡ 0 → input_rows r na nl l three rest ≡ rest
inputs_passed r na nl l three rest e = inputs_then r na nl l three rest e

pub inputs_refused : (r : Shelf) (na nl : ℕ) (l : List ℕ) (three : Bool) (rest : ℕ) → 1 ≤ input_rows r na nl l three 0 → input_rows r na nl l three rest ≡ input_rows r na nl l three 0
inputs_refused r na nl l three rest h = sym (inputs_refuse r na nl l three rest (λ z. omega arith))

pub ruleset check_rules = (refused_above, inputs_passed, inputs_refused, nat_tests)
