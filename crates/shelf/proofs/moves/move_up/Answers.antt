-- `shelf::moves::move_up` meets its contract. The loop's invariant: the places from j on are moved.
-- Assumes nothing.
use mathlib.Core.Path.{◌≡◌, subst}
use Prim.Native.Nat.{ℕ}
use native.Mathlib.Omega.{arith}
use Rattle.shelf.specs.Words.{words}
use Rattle.shelf.specs.below.Rewriting.{MovedUp}
use Rattle.shelf.proofs.hashlist.LinkLaws.{up_turn}
use Rattle.shelf.proofs.moves.move_up.Goals as goal

pub loop-j-preserved : goal.loop-j-preserved
loop-j-preserved c =
    let a = c.args in
    let at = c.loop-j in (
      omega arith,
      up_turn a.h a.p a.m a.c at.j _ c.next.result c.raised-y.result (words a.list.now) (words at.list) (words c.put.new.list) (omega arith) (omega arith)
          at.invariant.1 c.entry_in-x.ensures c.next.ensures c.raised-y.ensures c.put.ensures,
    )

pub returns : goal.returns
returns c =
    let a = c.args in
    let at = c.loop-j in
    let done : at.j ≡ a.p = omega arith in
    subst (λ (k : ℕ). MovedUp a.h a.p a.m a.c k (words a.list.now) (words at.list)) done at.invariant.1
