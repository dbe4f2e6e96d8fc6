-- `lines::fields::value_of` meets its contract. The loop's invariant: the value of what is left, after what is read, is the field's.
-- Assumes nothing.
use mathlib.Core.Path.{◌≡◌}
use Prim.Native.Nat.{◌<◌}
use lib.ListN.{drop}
use Rattle.lines.specs.Fields.{limit}
use Rattle.lines.specs.Walking.{value_of}
use Rattle.lines.proofs.FieldLaws.{value_from}
use Rattle.lines.proofs.fields.value_of.Given as goal

abbrev pub invariant-loop-x : goal.invariant-loop-x
invariant-loop-x l = (l.value < limit) × (value_from l.value (drop l.x-index l.field) ≡ value_of l.field)
