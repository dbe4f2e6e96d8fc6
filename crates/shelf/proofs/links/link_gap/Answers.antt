-- `shelf::links::link_gap` meets its contract. The loop's invariant: the places of the gap from t on are linked.
-- Assumes nothing.
use mathlib.Core.Path.{◌≡◌, subst}
use Prim.Native.Nat.{ℕ, ◌+◌}
use native.Mathlib.Omega.{arith}
use Rattle.shelf.specs.Words.{words}
use Rattle.shelf.specs.below.Rewriting.{LinkedIn}
use Rattle.shelf.proofs.hashlist.LinkLaws.{linked_turn}
use Rattle.shelf.proofs.links.link_gap.Goals as goal

pub loop-t-preserved : goal.loop-t-preserved
loop-t-preserved c =
    let a = c.args in
    let at = c.loop-t in
    let put = c.link_place in
    (omega arith, linked_turn a.h a.p at.t (a.p + a.c) (words a.list.now) (words at.list) (words put.new.list) (omega arith) (omega arith) at.invariant.1 put.ensures)

pub returns : goal.returns
returns c =
    let a = c.args in
    let at = c.loop-t in
    let done : at.t ≡ a.p = omega arith in
    subst (λ (k : ℕ). LinkedIn a.h a.p k (a.p + a.c) (words a.list.now) (words at.list)) done at.invariant.1
