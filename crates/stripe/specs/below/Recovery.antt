-- Words for the contracts of `src/recover.rt`, which speak of the shape of a stripe.
-- Assumes nothing.
use Rattle.std.specs.Prelude.{List, [], ◌≡◌, ℕ, ◌+◌, ◌*◌, length}
use Rattle.stripe.specs.Calls.{each_column}
use Rattle.stripe.specs.below.Steps.{replaced}
use Rattle.stripe.specs.below.Gathering.{Holds}
use Rattle.stripe.specs.declared.solve.Originals.{Originals}
use Rattle.stripe.specs.declared.recover.Shape.{Shape}

-- what a step asks of its arguments: a stripe of that shape, and a working block of b bytes
pub record Workable (s : Shape) (stripe work : List ℕ) : Type 0 where
  pub whole : length stripe ≡ (s.d + s.parities) * s.b
  pub working : length work ≡ s.b

-- the stripe with each of its columns changed by f; with what h makes of each column for member m
abbrev pub changed_in : Shape → ((ℕ → ℕ) → ℕ → ℕ) → List ℕ → List ℕ
changed_in s f stripe = each_column f (s.d + s.parities) s.b stripe

abbrev pub replaced_in : Shape → ℕ → ((ℕ → ℕ) → ℕ) → List ℕ → List ℕ
replaced_in s m h stripe = changed_in s (replaced m h) stripe

-- the originals of a stripe of that shape, all of them, with nothing behind it
pub record OwnOriginals (s : Shape) (stripe : List ℕ) (o : Originals) : Type 0 where
  pub array_is : o.array.now ≡ stripe
  pub log_is : o.log.now ≡ []
  pub numbers_are : o.numbers.now ≡ s.numbers
  pub d_is : o.d ≡ s.d
  pub b_is : o.b ≡ s.b
  pub held : Holds (s.d + s.parities) o
