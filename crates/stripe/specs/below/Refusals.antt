-- The refusals by their names, for the functions that make them: the number of each, as the definitions of `Calls.antt` give it.
-- Assumes nothing.
use Rattle.std.specs.Prelude.{ℕ, Result, Ok, Err}
use Rattle.stripe.specs.declared.Refusal.{Refusal}
use Rattle.stripe.specs.declared.Refusal.TheVariants.{Measures, Length, Member, TwoMissing}

abbrev pub number_of : Refusal → ℕ
number_of Measures = 1
number_of Length = 2
number_of Member = 6
number_of TwoMissing = 11

-- 0 where a check passes, else the number of its refusal
abbrev pub answer_of : Result (Unit {0}) Refusal → ℕ
answer_of (Ok _) = 0
answer_of (Err refusal) = number_of refusal
