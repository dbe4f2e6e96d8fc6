-- `shelf::links::link_place` meets its contract.
-- Assumes nothing.
use mathlib.Core.List.{List}
use mathlib.Core.Path.{◌≡◌, ap, ◌∙◌}
use Prim.Native.Nat.{ℕ, ◌+◌, ◌*◌, ◌-◌, ◌%◌, ◌<◌}
use native.Mathlib.Nat.{mod-lt}
use native.Mathlib.Omega.{arith}
use lib.ListN.{set}
use Rattle.shelf.specs.Words.{words}
use Rattle.shelf.specs.below.Rewriting.{behind}
use Rattle.shelf.proofs.hashlist.WordLaws.{words_long}
use Rattle.shelf.proofs.hashlist.LinkLaws.{linked_in}
use Rattle.shelf.proofs.links.link_place.Goals as goal
use Rattle.shelf.proofs.links.link_place.Goals.{in-Some, in-None}

pub returns : goal.returns
returns c =
    let a = c.args in
    let w : List ℕ = words a.list.now in
    let s : ℕ = c.address.result % a.h in
    let r : ℕ = behind c.last_below.result in
    let k : ℕ = c.match-last_below.k in
    let head : r ≡ 0 → k ≡ s =
    elim c.match-last_below.branch [
      | in-Some z ↦ (λ o. let e = ap behind z.in-Some.is in absurd (omega (arith, e, o)))
      | in-None z ↦ (λ o. z.k-is)
    ] in
    let tail : 0 < r → k ≡ a.h + 4 * (r - 1) + 3 =
    elim c.match-last_below.branch [
      | in-Some z ↦ (λ o. let e = ap behind z.in-Some.is in omega (arith, e, z.k-is))
      | in-None z ↦ (λ o. let e = ap behind z.in-None.is in absurd (omega (arith, e, o)))
    ] in
    linked_in a.h a.p a.t r k s w (words c.put_next.new.list) (words c.put_word.new.list) c.requires.p_le_t (mod-lt c.address.result c.requires.h_nonzero)
    (ap (λ (n : ℕ). n % a.h) c.address.ensures) c.last_below.ensures head tail
    (words_long a.list.now (a.h + 4 * a.t + 3) (omega (arith, c.requires.has_place.1.1)))
    (c.put_next.ensures ∙ ap (λ (n : ℕ). set w (a.h + 4 * a.t + 3) n) c.word-y.ensures) c.put_word.ensures
