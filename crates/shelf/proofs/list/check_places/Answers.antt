-- `shelf::list::check_places` meets its contract.
-- Assumes nothing.
use mathlib.Core.Bool.{Bool, ◌&&◌}
use mathlib.Core.Path.{sym, ap, ap₂, ◌∙◌}
use Prim.Native.Nat.{◌+◌, ◌*◌}
use Rattle.shelf.specs.Words.{words}
use Rattle.shelf.specs.below.Checking.{none_words}
use Rattle.shelf.proofs.hashlist.PlaceLaws.{places_all}
use Rattle.shelf.proofs.list.check_places.Goals as goal

pub returns-then-are_good : goal.returns-then-are_good
returns-then-are_good c =
    let a = c.args in
    ap₂ (λ (t u : Bool). t && u) (sym c.if-are_good.true ∙ c.are_good.ensures) c.are_none.ensures
    ∙ places_all (words a.list.now) a.g a.next a.n c.requires.n_le_e

pub returns-else-are_good : goal.returns-else-are_good
returns-else-are_good c =
    let a = c.args in
    c.if-are_good.false
    ∙ ap (λ (t : Bool). t && none_words (words a.list.now) (a.g.h + 4 * a.n) (a.g.h + 4 * a.g.e)) (sym c.if-are_good.false ∙ c.are_good.ensures)
    ∙ places_all (words a.list.now) a.g a.next a.n c.requires.n_le_e
