-- `shelf::plan::pre_reads` meets its contract.
-- Assumes nothing.
use mathlib.Core.Bool.{Bool, false, not, ◌&&◌}
use mathlib.Core.Path.{◌≡◌, refl, sym, ap, ap₂, ◌∙◌}
use native.Mathlib.Omega.{arith}
use Prim.Native.Nat.{ℕ, ◌<◌}
use lib.ListN.{length, length-set, get_or, set}
use Rattle.shelf.specs.Counting.{count}
use Rattle.shelf.specs.Calls.{unlisted_written, unlisted_others}
use Rattle.shelf.specs.below.Entries.{listed_in}
use Rattle.shelf.specs.below.Writing.{brings}
use Rattle.shelf.proofs.general.CountLaws.{count_most}
use Rattle.shelf.proofs.calls.PlanLaws.{table_turn, byte_most, counted_turn, others-read, written_read}
use Rattle.shelf.proofs.plan.pre_reads.Goals as goal
use Rattle.shelf.proofs.plan.pre_reads.Goals.{then-new, else-new, then-not-new, else-not-new}

pub loop-i-preserved : goal.loop-i-preserved
loop-i-preserved c =
    let a = c.args in
    let at = c.loop-i in
    let I = at.invariant in
    let w = brings a.share.now in
    let m = listed_in a.old.now in
    let new = c.brings-new.result in
    let old = c.is_listed-unlisted.result in
    let is : new ≡ w at.i = c.brings-new.ensures in
    let f : c.if-new.written ≡ (new && not old) =
    elim c.if-new.branch [
      | then-new z ↦ z.written-is ∙ sym (ap (λ (t : Bool). t && not old) z.if-new.true)
      | else-new z ↦ z.written-is ∙ z.if-new.false ∙ sym (ap (λ (t : Bool). t && not old) z.if-new.false)
    ] in
    let h : c.if-not-new.others ≡ (not new && not old) =
    elim c.if-not-new.branch [
      | then-not-new z ↦ z.others-is ∙ sym (ap (λ (t : Bool). not t && not old) z.if-not-new.true)
      | else-not-new z ↦ z.others-is ∙ ap not z.if-not-new.false ∙ sym (ap (λ (t : Bool). not t && not old) z.if-not-new.false)
    ] in
    let fw = f ∙ ap₂ (λ (s t : Bool). s && not t) is c.is_listed-unlisted.ensures in
    let ho = h ∙ ap₂ (λ (s t : Bool). not s && not t) is c.is_listed-unlisted.ensures in
    let low : at.i < length at.written = omega (arith, I.long_written, c.requires) in
    let low2 : at.i < length at.others = omega (arith, I.long_others, c.requires) in
    record {
      long_written = length-set at.written at.i c.if-new.written ∙ I.long_written;
      long_others = length-set at.others at.i c.if-not-new.others ∙ I.long_others;
      written = table_turn (unlisted_written w m) false at.i at.written c.if-new.written low fw I.written;
      others = table_turn (unlisted_others w m) false at.i at.others c.if-not-new.others low2 ho I.others;
      count_written = counted_turn (unlisted_written w m) at.i at.x at.written c.if-new.written low fw I.count_written;
      count_others = counted_turn (unlisted_others w m) at.i at.y at.others c.if-not-new.others low2 ho I.count_others;
    }

pub returns-then-y-x : goal.returns-then-y-x
returns-then-y-x c =
    let a = c.args in
    let at = c.loop-i in
    let I = at.invariant in
    let done : at.i ≡ a.d = omega arith in
    let w = brings a.share.now in
    let m = listed_in a.old.now in
    let x : at.x ≡ count a.d (unlisted_written w m) = I.count_written ∙ ap (λ (k : ℕ). count k (unlisted_written w m)) done in
    let y : at.y ≡ count a.d (unlisted_others w m) = I.count_others ∙ ap (λ (k : ℕ). count k (unlisted_others w m)) done in
    let r = others-read a.d w m at.written at.others at.x at.y (λ i h. I.written i (omega arith)) (λ i h. I.others i (omega arith)) x y c.if-y-x.true in
    let few = count_most a.d (unlisted_others w m) in
    record {
      tests = r.0;
      count_value = r.1.0;
      count_most = omega (arith, y, few);
      places_value = r.1.1;
      places_most = omega (arith, x, y, few, count_most a.d (unlisted_written w m));
    }

pub returns : goal.returns
returns c =
    let a = c.args in
    let at = c.loop-i in
    let I = at.invariant in
    let done : at.i ≡ a.d = omega arith in
    let w = brings a.share.now in
    let m = listed_in a.old.now in
    let x : at.x ≡ count a.d (unlisted_written w m) = I.count_written ∙ ap (λ (k : ℕ). count k (unlisted_written w m)) done in
    let y : at.y ≡ count a.d (unlisted_others w m) = I.count_others ∙ ap (λ (k : ℕ). count k (unlisted_others w m)) done in
    let r = written_read a.d w m at.written at.others at.x at.y (λ i h. I.written i (omega arith)) (λ i h. I.others i (omega arith)) x y c.if-y-x.false in
    let few = count_most a.d (unlisted_written w m) in
    record { tests = r.0; count_value = r.1.0; count_most = omega (arith, x, few); places_value = r.1.1; places_most = omega (arith, x, few) }

pub loop-i-init : goal.loop-i-init
unfolding count
loop-i-init c =
    record { long_written = refl; long_others = refl; written = λ j p. absurd (omega arith); others = λ j p. absurd (omega arith); count_written = refl; count_others = refl }

pub overflow_add-x : goal.overflow_add-x
overflow_add-x c = omega (arith, c.loop-i.invariant.count_written, count_most c.loop-i.i (unlisted_written (brings c.args.share.now) (listed_in c.args.old.now)), byte_most (get_or (set c.loop-i.written c.loop-i.i c.if-new.written) c.loop-i.i false))

pub overflow_add-y : goal.overflow_add-y
overflow_add-y c = omega (arith, c.loop-i.invariant.count_others, count_most c.loop-i.i (unlisted_others (brings c.args.share.now) (listed_in c.args.old.now)), byte_most (get_or (set c.loop-i.others c.loop-i.i c.if-not-new.others) c.loop-i.i false))

pub overflow_add-result : goal.overflow_add-result
overflow_add-result c =
    let at = c.loop-i in
    let w = brings c.args.share.now in
    let m = listed_in c.args.old.now in
    omega (arith, at.invariant.count_written, at.invariant.count_others, count_most at.i (unlisted_written w m), count_most at.i (unlisted_others w m))
