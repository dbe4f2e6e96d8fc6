-- `shelf::sources::other_missing` meets its contract.
-- Assumes nothing.
use mathlib.Core.Path.{◌≡◌, sym, subst}
use Prim.Native.Nat.{ℕ, ◌<◌}
use Rattle.shelf.proofs.calls.ServedLaws.{NoneBelow, other_found, none_found}
use Rattle.shelf.proofs.agreement.RowParity.{other_one}
use Rattle.shelf.specs.Members.{array_members}
use Rattle.shelf.specs.below.Tables.{tested}
use native.Mathlib.Omega.{arith}
use Rattle.shelf.proofs.sources.other_missing.Goals as goal

pub returns-then-g-eq1 : goal.returns-then-g-eq1
returns-then-g-eq1 c = let a = c.args in sym (other_one a.g (tested a.missing) a.i (omega (arith, c.if-g-eq1.true)))

pub returns-then-missing-n : goal.returns-then-missing-n
returns-then-missing-n c =
    let a = c.args in
    let at = c.loop-n in
    let low : at.n < array_members a.g = omega (arith, c.array_members-n-end.ensures, c.loop-n-test.true) in
    let two : 1 < a.g.parities = omega (arith, c.requires.1.0, c.if-g-eq1.false) in
    other_found a.g (tested a.missing) a.i two at.n low at.invariant c.if-missing-n.true c.if-n-i.true

pub returns : goal.returns
returns c =
    let a = c.args in
    let done : c.loop-n.n ≡ array_members a.g = omega (arith, c.array_members-n-end.ensures) in
    none_found a.g (tested a.missing) a.i (subst (λ (k : ℕ). NoneBelow (tested a.missing) a.i k) done c.loop-n.invariant)
