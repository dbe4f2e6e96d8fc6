-- `shelf::links::lower_front` meets its contract.
-- Assumes nothing.
use mathlib.Core.List.{List, ◌++◌}
use mathlib.Core.Path.{◌≡◌, refl, sym, ap, ◌∙◌, subst}
use Prim.Native.Nat.{ℕ, ◌+◌, ◌-◌, ◌*◌, ◌≤◌}
use native.Mathlib.Omega.{arith}
use lib.ListN.{length, take, drop}
use Rattle.shelf.specs.Words.{words}
use Rattle.shelf.specs.HashList.{next_at}
use Rattle.shelf.specs.below.Rewriting.{Upward, Lowers, next_behind, FrontRelabelled}
use Rattle.shelf.proofs.hashlist.WordLaws.{length-words, words-append, words-take, words-drop, words_hold}
use Rattle.shelf.proofs.hashlist.LinkLaws.{upward_behind, lowers_behind, front_known, front_whole}
use borrow.Author.Rules.{rules}
use Rattle.std.proofs.iter.Serving.{serving}
use Rattle.shelf.proofs.links.lower_front.Goals as goal

pub relabel_front-requires-clause-callable : goal.relabel_front-requires-clause-callable
relabel_front-requires-clause-callable c =
    let a = c.args in
    let l : List ℕ = a.list.now in
    let k : ℕ = a.h + 4 * a.p in
    let g = c.requires.gap in
    let part = c.split_at_mut-front in
    let behind : words part.result.1.now ≡ drop k (words l) = ap words part.ensures.back ∙ words-drop l k (4 * k) refl in
    let p-le : a.p ≤ a.q = g.0 in
    let q-le : a.q ≤ 4096 = g.1.0 in
    let long : 16 * (a.q - a.p) ≤ length part.result.1.now = omega (arith, g.1.1.1, part.ensures.back_len) in
    let up : Upward (next_behind (words part.result.1.now) a.p) a.p a.q =
    subst (λ (w : List ℕ). Upward (next_behind w a.p) a.p a.q) (sym behind) (upward_behind a.h a.p a.q (words l) c.requires.upward) in
    grind (arith, serving)

pub returns : goal.returns
returns c =
    let a = c.args in
    let l : List ℕ = a.list.now in
    let k : ℕ = a.h + 4 * a.p in
    let g = c.requires.gap in
    let part = c.split_at_mut-front in
    let u : List ℕ = c.relabel_front.new.front in
    let R : ℕ → ℕ → Type 0 = Lowers (next_at (words l) a.h) a.p a.q in
    let front : words part.result.0.now ≡ take k (words l) = ap words part.ensures.front ∙ words-take l k (4 * k) refl in
    let behind : words part.result.1.now ≡ drop k (words l) = ap words part.ensures.back ∙ words-drop l k (4 * k) refl in
    let long : length u ≡ 4 * k = c.relabel_front.auto.front ∙ part.ensures.front_len in
    let known : FrontRelabelled R a.h a.p (words part.result.0.now) (words u) =
    front_known _ R (λ y r z.
    let low : Lowers (next_behind (words part.result.1.now) a.p) a.p a.q y r = search rules in
    lowers_behind a.h a.p a.q y r (words l) (subst (λ (w : List ℕ). Lowers (next_behind w a.p) a.p a.q y r) behind low))
    a.h a.p _ _ c.relabel_front.ensures in
    subst (λ (v : List ℕ). FrontRelabelled R a.h a.p (words l) v)
    (ap (λ (w : List ℕ). words u ++ w) (sym behind) ∙ sym (words-append u part.result.1.now k long))
    (front_whole R a.h a.p (words l) (words u) (words_hold l k (omega (arith, g.0, g.1.1.1))) (length-words u k long)
    (subst (λ (w : List ℕ). FrontRelabelled R a.h a.p w (words u)) front known))
