-- What there is at each stage of a session.
-- Assumes nothing.
use Rattle.std.specs.Prelude.{Bool, true, false, ◌≡◌}
use Rattle.shelf.specs.declared.record.Geometry.{Geometry}
use Rattle.bench.specs.Bench.{fits}
use Rattle.bench.specs.declared.session.Stage.{Stage}

-- whether there is a shelf: from the second line of names on, unless the measures were refused
abbrev pub has_shelf : Stage → Bool
has_shelf Stage.MeasureNames = false
has_shelf Stage.Measures = false
has_shelf Stage.CallNames = true
has_shelf Stage.Calls = true
has_shelf Stage.Refused = false

-- a shelf that there is has room
abbrev pub ReadyAt : Stage → Geometry → Type 0
ReadyAt s g = has_shelf s ≡ true → fits g ≡ true
