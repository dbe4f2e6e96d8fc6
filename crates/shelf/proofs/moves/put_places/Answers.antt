-- `shelf::moves::put_places` meets its contract. The loop's invariant: the first j entries are put, and the words behind all places to be filled are kept.
-- Assumes nothing.
use mathlib.Core.List.{List}
use mathlib.Core.Path.{◌≡◌, refl, ◌∙◌, subst}
use Prim.Native.Nat.{ℕ, ◌+◌, ◌*◌}
use native.Mathlib.Omega.{arith}
use lib.ListN.{length}
use Rattle.shelf.specs.Words.{words}
use Rattle.shelf.specs.HashList.{Entry, entry_in}
use Rattle.shelf.specs.below.Rewriting.{placed, Filled, nth}
use Rattle.shelf.proofs.hashlist.WordLaws.{length-words}
use Rattle.shelf.proofs.hashlist.TableLaws.{length-table, placed-put, placed-kept, links-put, kept_more, links-same_word, links-more}
use Rattle.shelf.proofs.hashlist.EntryLaws.{filled_start, filled_turn}
use Rattle.shelf.proofs.moves.put_places.Goals as goal

pub loop-j-init : goal.loop-j-init
loop-j-init c =
    let a = c.args in
    (filled_start a.i (placed a.e (words a.list.now) a.h 0) a.fresh.now, ((λ j o. refl), links-same_word a.h (words a.list.now)))

pub loop-j-preserved : goal.loop-j-preserved
loop-j-preserved c =
    let a = c.args in
    let at = c.loop-j in
    let w₀ : List ℕ = words a.list.now in
    let w : List ℕ = words at.list in
    let v : List ℕ = words c.put_entry.new.list in
    let i : ℕ = a.i + at.j in
    let x : Entry = nth a.fresh.now at.j in
    let is = c.put_entry.ensures in (
      filled_turn a.i at.j (placed a.e w₀ a.h 0) (placed a.e w a.h 0) (placed a.e v a.h 0) a.fresh.now (let l = length-table a.e 0 (entry_in w a.h) in omega (arith, l)) (omega arith)
          (placed-put w v a.h i x a.e (omega arith) (length-words at.list (a.h + 4 * a.e) (at.auto.list ∙ c.requires.list_len)) is) at.invariant.0,
      (
        kept_more (a.h + 4 * (a.i + length a.fresh.now)) (a.h + 4 * (i + 1)) w₀ w v (omega arith) at.invariant.1.0 (placed-kept w v a.h i x is),
        links-more a.h w₀ w v at.invariant.1.1 (links-put w v a.h i x is),
      ),
    )

pub returns-clause-filled : goal.returns-clause-filled
returns-clause-filled c =
    let a = c.args in
    let at = c.loop-j in
    let done : at.j ≡ length a.fresh.now = omega arith in
    subst (λ (j : ℕ). Filled a.i j (placed a.e (words a.list.now) a.h 0) (placed a.e (words at.list) a.h 0) a.fresh.now) done at.invariant.0
