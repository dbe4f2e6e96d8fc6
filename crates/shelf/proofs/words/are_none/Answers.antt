-- `shelf::words::are_none` meets its contract.
-- Assumes nothing.
use mathlib.Core.Bool.{Bool, ◌&&◌}
use mathlib.Core.List.{List}
use mathlib.Core.Path.{refl, sym, ap, ap₂, ◌∙◌}
use Prim.Native.Nat.{ℕ, ◌*◌, ◌/◌}
use native.Mathlib.Omega.{arith}
use lib.Dec.{eqb}
use lib.ListN.{length, drop}
use Rattle.std.specs.List.{list_all, between}
use Rattle.shelf.proofs.hashlist.PlaceLaws.{low, none_chunks}
use Rattle.shelf.proofs.words.are_none.Goals as goal

pub returns-then-are_full : goal.returns-then-are_full
returns-then-are_full c =
    let a = c.args in
    let n : ℕ = length (between (4 * a.i) (4 * a.k) a.list.now) / 512 in
    ap₂ (λ (t : Bool) (x : ℕ). t && eqb x 255)
    (sym c.if-are_full.true ∙ c.are_full.ensures ∙ ap (list_all (λ x. eqb (low x) 255)) c.as_chunks.ensures.front)
    (c.least.ensures ∙ ap low c.as_chunks.ensures.back)
    ∙ none_chunks a.list.now a.i a.k 512 n (n * 512) c.requires.i_le_k c.requires.k_in_bounds (λ q. omega (arith, c.type_inv.list q)) refl

pub returns-else-are_full : goal.returns-else-are_full
returns-else-are_full c =
    let a = c.args in
    let xs : List ℕ = between (4 * a.i) (4 * a.k) a.list.now in
    let n : ℕ = length xs / 512 in
    c.if-are_full.false
    ∙ ap (λ (t : Bool). t && eqb (low (drop (n * 512) xs)) 255)
    (sym c.if-are_full.false ∙ c.are_full.ensures ∙ ap (list_all (λ x. eqb (low x) 255)) c.as_chunks.ensures.front)
    ∙ none_chunks a.list.now a.i a.k 512 n (n * 512) c.requires.i_le_k c.requires.k_in_bounds (λ q. omega (arith, c.type_inv.list q)) refl
