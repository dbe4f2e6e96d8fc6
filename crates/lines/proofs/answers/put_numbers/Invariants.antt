-- `lines::answers::put_numbers` meets its contract. The loop's invariant: the numbers so far are put, and there is room for the others.
-- Assumes nothing.
use Prim.Native.Nat.{◌+◌, ◌*◌, ◌-◌, ◌≤◌}
use lib.ListN.{length, take}
use Rattle.lines.specs.Walking.{Puts}
use Rattle.lines.proofs.AnswerLaws.{blanked}
use Rattle.lines.proofs.answers.put_numbers.Given as goal

abbrev pub invariant-loop-n : goal.invariant-loop-n
invariant-loop-n l =
    (l.at + (21 * (length l.numbers - l.n-index) + 1) ≤ length l.initial.out) × Puts l.initial.out l.from (blanked (take l.n-index l.numbers)) l.out l.at
