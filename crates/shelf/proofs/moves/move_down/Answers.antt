-- `shelf::moves::move_down` meets its contract. The loop's invariant: the places from p on, below j, are moved.
-- Assumes nothing.
use mathlib.Core.Path.{◌≡◌, subst}
use Prim.Native.Nat.{◌-◌, ℕ}
use native.Mathlib.Omega.{arith}
use Rattle.shelf.specs.Words.{words}
use Rattle.shelf.specs.below.Rewriting.{MovedDown}
use Rattle.shelf.proofs.hashlist.LinkLaws.{moved_turn}
use Rattle.shelf.proofs.moves.move_down.Goals as goal

pub loop-j-preserved : goal.loop-j-preserved
loop-j-preserved c =
    let a = c.args in
    let at = c.loop-j in
    moved_turn a.h a.p (a.q - a.p) at.j _ c.next.result c.down-y.result (words a.list.now) (words at.list) (words c.put.new.list) (omega arith)
    at.invariant c.entry_in-x.ensures c.next.ensures c.down-y.ensures c.put.ensures

pub returns : goal.returns
returns c =
    let a = c.args in
    let at = c.loop-j in
    let done : at.j ≡ a.n - (a.q - a.p) = omega arith in
    subst (λ (k : ℕ). MovedDown a.h a.p (a.q - a.p) k (words a.list.now) (words at.list)) done at.invariant
