-- `shelf::status::fetch_withheld` meets its contract. The loop's invariant: no block from the j-th on is withheld.
-- Assumes nothing.
use mathlib.Core.Path.{◌≡◌}
use Rattle.shelf.specs.Counting.{any}
use Rattle.shelf.specs.Members.{wanted}
use Rattle.shelf.specs.Lent.{flag_at, listed_by}
use Rattle.shelf.specs.Status.{withheld, fetch_withheld}
use Rattle.shelf.proofs.status.fetch_withheld.Given as goal

abbrev pub invariant-loop-j : goal.invariant-loop-j
invariant-loop-j l =
    any l.j (wanted l.shelf.geometry (withheld l.shelf.geometry (flag_at l.shelf) (listed_by l.shelf.geometry l.list)) l.a)
    ≡ fetch_withheld l.shelf.geometry (flag_at l.shelf) (listed_by l.shelf.geometry l.list) l.a l.n
