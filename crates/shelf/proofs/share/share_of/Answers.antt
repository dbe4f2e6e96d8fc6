-- `shelf::share::share_of` meets its contract.
-- Assumes nothing.
use Rattle.std.specs.Prelude.{Option, Some, None}
use mathlib.Core.Bool.{Bool, false, ◌&&◌}
use mathlib.Core.List.{List}
use mathlib.Core.Path.{◌≡◌, sym, ap, ap₂, ◌∙◌}
use Prim.Native.Nat.{ℕ, ◌+◌, ◌*◌, ◌-◌, ◌<◌}
use native.Mathlib.Omega.{arith}
use lib.Dec.{leb, ltb}
use lib.ListN.{length, length-set, get_or}
use lib.Seq.{get_or-set_other}
use borrow.Author.Count.{below_more}
use borrow.Author.Tests.{le-leb, lt-leb, lt-ltb, le-ltb}
use Rattle.shelf.specs.Counting.{choose}
use Rattle.shelf.proofs.general.TestLaws.{and_false, choose_true, choose_false}
use Rattle.shelf.proofs.calls.PlanLaws.{table_turn}
use Rattle.shelf.proofs.share.share_of.Goals as goal
use Rattle.shelf.proofs.share.share_of.Goals.{then-a-address+then-address-a, else-a-address, else-a-address-via-then-a-address+else-address-a, else-a-address-via-else-a-address}

pub loop-i-preserved : goal.loop-i-preserved
loop-i-preserved c =
    let a = c.args in
    let at = c.loop-i in
    let I = at.invariant in
    let first = a.x * a.g.d in
    let f = λ (j : ℕ). choose (leb a.a (first + j) && ltb (first + j) (a.a + a.n)) (Some (first + j - a.a)) None in
    let low : at.i < length at.from = omega (arith, I.long, c.requires.in_range.d_most) in
    elim c.if-a-address.branch [
      | then-a-address+then-address-a w ↦
          let on : Some (first + at.i - a.a) ≡ f at.i =
          sym (choose_true _ _ None (ap₂ ◌&&◌ (le-leb a.a (first + at.i) w.if-a-address.true) (lt-ltb (first + at.i) (a.a + a.n) w.if-address-a.true))) in
          record {
            long = ap length w.from-is ∙ length-set at.from at.i _ ∙ I.long;
            brought = λ j h. ap (λ (z : List (Option ℕ)). get_or z j None) w.from-is ∙ table_turn f None at.i at.from _ low on I.brought j h;
            left = λ j h. ap (λ (z : List (Option ℕ)). get_or z j None) w.from-is ∙ get_or-set_other at.from at.i j _ None (λ u. omega arith) ∙ I.left j (omega arith);
          }
      | else-a-address w ↦
          let off : (leb a.a (first + at.i) && ltb (first + at.i) (a.a + a.n)) ≡ false =
          elim w.else-a-address.branch [
            | else-a-address-via-then-a-address+else-address-a z ↦
                ap (λ (t : Bool). leb a.a (first + at.i) && t) (le-ltb (first + at.i) (a.a + a.n) z.if-address-a.false) ∙ and_false (leb a.a (first + at.i))
            | else-a-address-via-else-a-address z ↦ ap (λ (t : Bool). t && ltb (first + at.i) (a.a + a.n)) (lt-leb a.a (first + at.i) z.if-a-address.false)
          ] in
          record {
            long = ap length w.from-is ∙ I.long;
            brought = λ j h. ap (λ (z : List (Option ℕ)). get_or z j None) w.from-is
                ∙ below_more (λ (k : ℕ). get_or at.from k None ≡ f k) at.i I.brought (I.left at.i (omega arith) ∙ sym (choose_false _ (Some (first + at.i - a.a)) None off)) j h;
            left = λ j h. ap (λ (z : List (Option ℕ)). get_or z j None) w.from-is ∙ I.left j (omega arith);
          }
    ]
