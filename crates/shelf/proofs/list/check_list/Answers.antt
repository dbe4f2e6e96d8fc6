-- `shelf::list::check_list` meets its contract.
-- Assumes nothing.
use mathlib.Core.Bool.{Bool, ◌&&◌}
use mathlib.Core.List.{List}
use mathlib.Core.Path.{◌≡◌, sym, ap, ◌∙◌}
use Prim.Native.Nat.{ℕ, ◌+◌, ◌*◌, ◌≤◌}
use native.Mathlib.Nat.{mul-le-mul}
use native.Mathlib.Omega.{arith}
use lib.ListN.{length}
use Rattle.shelf.specs.declared.record.Geometry.{Geometry}
use Rattle.shelf.specs.Words.{words}
use Rattle.shelf.specs.below.Lists.{Measures}
use Rattle.shelf.specs.HashList.{none_word}
use Rattle.shelf.specs.below.Checking.{chained}
use Rattle.shelf.proofs.hashlist.WordLaws.{length-words}
use Rattle.shelf.proofs.hashlist.CheckLaws.{fine-low, valid-tested, valid-over}
use borrow.Author.Tests.{leb-true}
use Rattle.shelf.proofs.list.check_list.Goals as goal
use Rattle.shelf.proofs.list.check_list.Goals.{then-listed-g, else-listed-g}

few : {g : Geometry} {l : List ℕ} → Measures g l → g.d * g.s ≤ 1048576
few m = omega (arith, mul-le-mul m.d1 m.s1)

fits : {g : Geometry} {l : List ℕ} → Measures g l → g.d * g.s ≤ none_word
fits m = omega (arith, few m)

long : {g : Geometry} {l : List ℕ} → Measures g l → length (words l) ≡ g.h + 4 * g.e
long {g} {l} m = length-words l (g.h + 4 * g.e) m.len

pub check_chains-requires-clause-low_to : goal.check_chains-requires-clause-low_to
check_chains-requires-clause-low_to c =
    let a = c.args in
    elim c.if-listed-g.branch [
      | then-listed-g z ↦
          fine-low (words a.list.now) a.g a.next a.listed z.if-listed-g.true 1048576 (few c.requires)
          (sym z.check_places.ensures ∙ sym z.value-is ∙ c.if-check_places.true)
      | else-listed-g z ↦ absurd (omega (arith, z.if-listed-g.false, leb-true _ _ (sym z.value-is ∙ c.if-check_places.true)))
    ]

pub returns-then-check_places : goal.returns-then-check_places
returns-then-check_places c =
    let a = c.args in
    let m = c.requires in
    elim c.if-listed-g.branch [
      | then-listed-g z ↦
          c.check_chains.ensures
          ∙ sym (valid-tested (words a.list.now) a.g a.next a.listed m.h0 m.d0 m.e1 (fits m) (long m) z.if-listed-g.true
          ∙ ap (λ (t : Bool). t && chained (words a.list.now) a.g.h a.listed) (sym z.check_places.ensures ∙ sym z.value-is ∙ c.if-check_places.true))
      | else-listed-g z ↦ absurd (omega (arith, z.if-listed-g.false, leb-true _ _ (sym z.value-is ∙ c.if-check_places.true)))
    ]

pub returns-else-check_places : goal.returns-else-check_places
returns-else-check_places c =
    let a = c.args in
    let m = c.requires in
    c.if-check_places.false
    ∙ sym (elim c.if-listed-g.branch [
      | then-listed-g z ↦
          valid-tested (words a.list.now) a.g a.next a.listed m.h0 m.d0 m.e1 (fits m) (long m) z.if-listed-g.true
          ∙ ap (λ (t : Bool). t && chained (words a.list.now) a.g.h a.listed) (sym z.check_places.ensures ∙ sym z.value-is ∙ c.if-check_places.false)
      | else-listed-g z ↦ valid-over (words a.list.now) a.g a.next a.listed (omega (arith, z.if-listed-g.false))
    ])
