-- `field::fill_multiples` meets its contract. The loop's invariant: each entry passed is c times its index.
-- Assumes nothing.
use mathlib.Core.List.{List, ◌++◌}
use mathlib.Core.Path.{◌≡◌, ap, ◌∙◌}
use Prim.Native.Nat.{ℕ, ◌+◌, ◌-◌, ◌≤◌, ◌<◌}
use native.Mathlib.Omega.{arith}
use lib.ListN.{length, get_or, drop}
use Rattle.std.proofs.lemmas.List.{length-take-le, get_or_append_left, get_or-append_right, get_or-drop}
use Rattle.field.proofs.fill_multiples.Goals as goal

-- the first 256 entries are those of the list xs, and the others are as they were
filled : (xs t : List ℕ) (f : ℕ → ℕ) → length xs ≡ 256 → ((i : ℕ) → i < 256 → get_or xs i 0 ≡ f i)
    → (k : ℕ) → k < 256 → get_or (xs ++ drop 256 t) k 0 ≡ f k
filled xs t f e all k h = get_or_append_left xs (drop 256 t) 0 k (omega arith) ∙ all k h

rest : (xs t : List ℕ) → length xs ≡ 256 → (k : ℕ) → 256 ≤ k → get_or (xs ++ drop 256 t) k 0 ≡ get_or t k 0
rest xs t e k h =
    get_or-append_right xs (drop 256 t) 256 k 0 e h ∙ get_or-drop 256 t (k - 256) 0 ∙ ap (λ (i : ℕ). get_or t i 0) (let back : 256 + (k - 256) ≡ k = omega arith in back)

pub returns-clause-multiples : goal.returns-clause-multiples
returns-clause-multiples c =
    let at-loop = c.loop-k in
    let long : length at-loop.entry-items ≡ 256 = at-loop.auto.entry-items ∙ length-take-le 256 c.args.t.now c.requires in
    filled at-loop.entry-items c.args.t.now _ long (λ i h. at-loop.invariant i (omega (arith, c.loop-k-test.false, at-loop.auto.entry-items, long)))

pub returns-clause-same_from : goal.returns-clause-same_from
returns-clause-same_from c =
    let at-loop = c.loop-k in
    let long : length at-loop.entry-items ≡ 256 = at-loop.auto.entry-items ∙ length-take-le 256 c.args.t.now c.requires in
    rest at-loop.entry-items c.args.t.now long
