-- `shelf::entries::pack_entries` meets its contract.
-- Assumes nothing.
use mathlib.Core.List.{List, [], ◌∷◌, ◌++◌}
use mathlib.Core.Path.{◌≡◌, refl, sym, ap, ap₂, ◌∙◌}
use Prim.Native.Nat.{ℕ, suc, ◌+◌, ◌<◌}
use native.Mathlib.Omega.{arith}
use lib.ListN.{length, take}
use lib.Seq.{take-suc-set, get_or-take, length-take-le}
use Rattle.shelf.specs.HashList.{Entry}
use Rattle.shelf.specs.below.Entries.{no_records, records_in, is_listed, listed_in}
use Rattle.shelf.specs.declared.entries.Records.{Records}
use Rattle.shelf.specs.below.Writing.{entry_with, picked, packed}
use Rattle.shelf.proofs.calls.RelistLaws.{picked_turn, picked_left}
use Rattle.shelf.proofs.entries.pack_entries.Goals as goal
use Rattle.shelf.proofs.entries.pack_entries.Goals.{then-is_listed, else-is_listed}

pub loop-i-init : goal.loop-i-init
unfolding picked
loop-i-init c = record { few = omega arith; long = c.told-slice; packed = refl }

pub loop-i-preserved : goal.loop-i-preserved
loop-i-preserved c =
    let a = c.args in
    let at = c.loop-i in
    let I = at.invariant in
    let w = listed_in a.entries.now in
    let f = λ (i : ℕ). entry_with (a.base + i) (records_in a.entries.now i) in
    let o : at.i < a.d = omega (arith, length-take-le a.d a.entries.now (omega (arith, c.told-entries, c.requires.d_bound))) in
    let same : records_in (take a.d a.entries.now) at.i ≡ records_in a.entries.now at.i = get_or-take a.d a.entries.now at.i no_records o in
    let told : listed_in a.entries.now at.i ≡ c.is_listed.result = ap (λ (r : Records). is_listed r) (sym same) ∙ sym c.is_listed.ensures in
    let low : at.n < length at.slice = omega (arith, I.few, I.long, c.requires.d_bound) in
    elim c.if-is_listed.branch [
      | then-is_listed z ↦
          let x : Entry = z.entry_with.result in
          let next : at.n + 1 ≡ suc at.n = omega arith in
          record {
            few = omega (arith, z.n-is, I.few);
            long = c.if-is_listed.array_long;
            packed = ap₂ (λ (n : ℕ) (xs : List Entry). take n xs) (z.n-is ∙ next) z.slice-is ∙ take-suc-set at.slice at.n x low
                ∙ ap₂ (λ (xs : List Entry) (y : Entry). xs ++ (y ∷ [])) I.packed
                (z.entry_with.ensures ∙ ap (λ (r : Records). entry_with (a.base + at.i) r) same)
                ∙ sym (picked_turn at.i w f (told ∙ z.if-is_listed.true));
          }
      | else-is_listed z ↦
          record {
            few = omega (arith, z.n-is, I.few);
            long = c.if-is_listed.array_long;
            packed = ap₂ (λ (n : ℕ) (xs : List Entry). take n xs) z.n-is z.slice-is ∙ I.packed
                ∙ sym (picked_left at.i w f (told ∙ z.if-is_listed.false));
          }
    ]

pub returns-clause-packed : goal.returns-clause-packed
returns-clause-packed c =
    let a = c.args in
    let at = c.loop-i in
    let done : at.i ≡ a.d = omega (arith, length-take-le a.d a.entries.now (omega (arith, c.told-entries, c.requires.d_bound))) in
    at.invariant.packed ∙ ap (λ (k : ℕ). packed k a.base a.entries.now) done
