-- `lines::held::HeldLine::push_until` meets its contract. The loop's invariant: the bytes so far are taken, and none of them ends the line.
-- Assumes nothing.
use Rattle.std.proofs.Common.{◌≡◌, ◌≢◌, ◌≤◌, ◌<◌, ℕ, Some, take, slice_index, option_map}
use Rattle.lines.specs.Held.{ExtendsBy}
use Rattle.lines.proofs.held.HeldLine.push_until.Given as goal

abbrev pub invariant-loop-i : goal.invariant-loop-i
invariant-loop-i l =
    ((n : ℕ) → l.len ≡ Some n → n ≤ 128)
    × (ExtendsBy l.fn.self (take l.i l.input) (option_map (λ n. take n l.self-inside.bytes) l.len)
    × ((k : ℕ) → k < l.i → slice_index l.input k ≢ l.end))
