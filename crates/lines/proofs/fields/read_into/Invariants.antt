-- `lines::fields::read_into` meets its contract. The loop's invariant: the values read and those of the fields left are the text's.
-- Assumes nothing.
use mathlib.Core.Path.{◌≡◌}
use Prim.Native.Nat.{◌-◌}
use lib.ListN.{length, take}
use Rattle.lines.specs.Fields.{fields}
use Rattle.lines.specs.Walking.{values_of}
use Rattle.lines.proofs.LineLaws.{more, left}
use Rattle.lines.proofs.fields.read_into.Given as goal

abbrev pub invariant-loop-value : goal.invariant-loop-value
invariant-loop-value l =
    more (take l.value-index l.values) (length l.initial.values - l.value-index) (left l.fields.done l.fields.rest.now)
    ≡ values_of (length l.initial.values) (fields l.text)
