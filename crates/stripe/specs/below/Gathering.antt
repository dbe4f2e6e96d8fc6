-- What is gathered in a working block of the originals of a stripe: words for the contracts of `src/solve.rt`.
-- Assumes nothing.
use Rattle.std.specs.Prelude.{List, ◌++◌, ℕ, ◌+◌, length}
use Rattle.stripe.specs.Blocks.{gen}
use Rattle.stripe.specs.Places.{numbered, by_column}
use Rattle.stripe.specs.below.Tables.{Held}
use Rattle.stripe.specs.below.Steps.{plus, twice_plus, quotient}
use Rattle.stripe.specs.declared.solve.Originals.{Originals}

-- the buffer whose blocks the table numbers: the array with the log behind it
abbrev pub buffer : Originals → List ℕ
buffer o = o.array.now ++ o.log.now

-- what the column has for a role
abbrev pub at_role : ℕ → (ℕ → ℕ) → ℕ
at_role i D = D i

-- the block that has for each byte what h makes of the column of originals
abbrev pub gathered : ((ℕ → ℕ) → ℕ) → Originals → List ℕ
gathered h o = gen o.b (by_column h (numbered o.numbers.now) o.b (buffer o))

-- that block added to work; to twice work
abbrev pub added : ((ℕ → ℕ) → ℕ) → Originals → List ℕ → List ℕ
added h o work = gen o.b (plus (by_column h (numbered o.numbers.now) o.b (buffer o)) work)

abbrev pub doubled_added : ((ℕ → ℕ) → ℕ) → Originals → List ℕ → List ℕ
doubled_added h o work = gen o.b (twice_plus (by_column h (numbered o.numbers.now) o.b (buffer o)) work)

-- work with Q added, divided by the coefficient of x and y
abbrev pub divided : ℕ → ℕ → Originals → List ℕ → List ℕ
divided x y o work = gen o.b (quotient o.d x y (by_column (at_role (o.d + 1)) (numbered o.numbers.now) o.b (buffer o)) work)

-- the numbers of the first n roles are there
abbrev pub Holds : ℕ → Originals → Type 0
Holds n o = Held n o.b (length o.array.now + length o.log.now) o.numbers.now
