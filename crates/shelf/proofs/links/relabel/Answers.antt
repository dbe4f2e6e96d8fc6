-- `shelf::links::relabel` meets its contract. The loop's invariant: the first k links are relabelled.
-- Assumes nothing.
use mathlib.Core.Path.{◌≡◌, subst}
use Prim.Native.Nat.{ℕ, ◌+◌, ◌*◌, ◌<◌}
use native.Mathlib.Omega.{arith}
use Rattle.shelf.specs.Words.{words}
use Rattle.shelf.specs.below.Rewriting.{Relabelled}
use Rattle.shelf.proofs.hashlist.WordLaws.{words_long}
use Rattle.shelf.proofs.hashlist.LinkLaws.{relabel_turn}
use Rattle.shelf.proofs.links.relabel.Goals as goal

pub loop-k-preserved : goal.loop-k-preserved
loop-k-preserved g c =
    let a = c.args in
    let at = c.loop-k in
    relabel_turn _ a.first a.step at.k c.word-y.result c.f.result (words a.list.now) (words at.list) (words c.put_word.new.list)
    c.requires.step_nonzero
    (words_long at.list (a.first + a.step * at.k) (omega (arith, c.requires.in_bounds at.k c.loop-k-test.true, at.auto.list)))
    at.invariant c.word-y.ensures (c.word-y.type_inv, c.f.ensures) c.put_word.ensures

pub returns : goal.returns
returns g c =
    let a = c.args in
    let at = c.loop-k in
    let done : at.k ≡ a.n = omega arith in
    subst (λ (k : ℕ). Relabelled (λ y r. (y < 4294967296) × goal.F-post g a.f.now y r) a.first a.step k (words a.list.now) (words at.list)) done at.invariant
