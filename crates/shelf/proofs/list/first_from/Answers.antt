-- `shelf::list::first_from` meets its contract.
-- Assumes nothing.
use mathlib.Core.Bool.{true, false}
use mathlib.Core.List.{List}
use mathlib.Core.Path.{◌≡◌, refl, sym, ap, ◌∙◌, subst}
use Prim.Native.Nat.{ℕ, ◌+◌, ◌-◌, ◌*◌, ◌/◌, ◌≤◌}
use native.Mathlib.Nat.{le_refl}
use native.Mathlib.Omega.{arith}
use lib.Dec.{ltb}
use lib.ListN.{length, get_or, take, drop}
use Rattle.std.specs.List.Sorted.{IsPartitionedBy, IsPartitionPoint}
use lib.Seq.{length-take-le}
use Rattle.std.specs.List.{between}
use Rattle.std.specs.Simd.{first_chunks}
use Rattle.std.proofs.lemmas.List.Edits.{length-between}
use Rattle.std.proofs.lemmas.Slice.{between_to_end}
use Rattle.shelf.specs.Words.{words}
use Rattle.shelf.proofs.hashlist.OrderLaws.{lists-room, parts-parted, parts-first}
use Rattle.shelf.proofs.list.first_from.Goals as goal

pub slice_bounds-count_below-end : goal.slice_bounds-count_below-end
slice_bounds-count_below-end c =
    let a = c.args in
    let l : List ℕ = a.list.now in
    let b : length (between (4 * a.g.h) (length l) l) ≡ length l - 4 * a.g.h = length-between l (4 * a.g.h) (length l) (le_refl (length l)) in
    let n : length c.as_chunks.result.0.now ≡ length (between (4 * a.g.h) (length l) l) / 16 = c.as_chunks.ensures.front_len in
    sym (length-take-le a.n c.as_chunks.result.0.now (omega (arith, b, n, lists-room a.list.now a.g a.n c.requires.measures c.requires.lists, c.requires.measures.len)))

pub count_below-requires : goal.count_below-requires
count_below-requires c =
    let a = c.args in
    let m = c.requires.measures in
    let v = c.requires.lists in
    let l : List ℕ = a.list.now in
    let front : c.as_chunks.result.0.now ≡ first_chunks 16 (length (drop (4 * a.g.h) l) / 16) (drop (4 * a.g.h) l) =
    c.as_chunks.ensures.front ∙ ap (λ (b : List ℕ). first_chunks 16 (length b / 16) b) (between_to_end l (4 * a.g.h) (length l) (le_refl (length l))) in
    let long : 4 * (a.g.h + 4 * a.n) ≤ length a.list.now = omega (arith, lists-room a.list.now a.g a.n m v, m.len) in
    subst (λ (xs : List (List ℕ)). IsPartitionedBy (λ x. ltb (get_or (words x) 0 0) a.a) (take a.n xs)) (sym front)
    (parts-parted (words a.list.now) a.g v.next a.n m.h0 m.d0 m.e1 v.passing a.list.now refl long a.a)

pub returns : goal.returns
returns c =
    let a = c.args in
    let m = c.requires.measures in
    let v = c.requires.lists in
    let r = c.count_below in
    let l : List ℕ = a.list.now in
    let front : c.as_chunks.result.0.now ≡ first_chunks 16 (length (drop (4 * a.g.h) l) / 16) (drop (4 * a.g.h) l) =
    c.as_chunks.ensures.front ∙ ap (λ (b : List ℕ). first_chunks 16 (length b / 16) b) (between_to_end l (4 * a.g.h) (length l) (le_refl (length l))) in
    let long : 4 * (a.g.h + 4 * a.n) ≤ length a.list.now = omega (arith, lists-room a.list.now a.g a.n m v, m.len) in
    parts-first (words a.list.now) a.g v.next a.n m.h0 m.d0 m.e1 v.passing a.list.now refl long a.a r.result
    (subst (λ (xs : List (List ℕ)). r.result ≤ length (take a.n xs)) front r.ensures.bound)
    (subst (λ (xs : List (List ℕ)). IsPartitionPoint (λ x. ltb (get_or (words x) 0 0) a.a ≡ true) (λ x. ltb (get_or (words x) 0 0) a.a ≡ false) (take a.n xs) r.result) front r.ensures.parted)
