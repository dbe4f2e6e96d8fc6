-- What is lent to a view of a stripe, with the array that is lent beside it.
-- Assumes nothing.
use Rattle.std.specs.Prelude.{List, ℕ}
use Rattle.shelf.specs.Lent.{Lent, lent}
use Rattle.shelf.specs.declared.fetch.View.{View}

abbrev pub seen : View → List ℕ → Lent
seen v a = lent v.shelf a v.log.now v.list.now
