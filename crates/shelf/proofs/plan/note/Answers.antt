-- `shelf::plan::note` meets its contract.
-- Assumes nothing.
use Rattle.std.specs.Prelude.{Some}
use mathlib.Core.Path.{◌≡◌, sym, ap, ◌∙◌}
use Prim.Native.Nat.{ℕ, ◌+◌}
use native.Mathlib.Omega.{arith}
use lib.ListN.{length-set}
use Rattle.shelf.specs.Counting.{count}
use Rattle.shelf.specs.below.Tables.{tested}
use Rattle.shelf.specs.below.Entries.{no_records, records_in}
use Rattle.shelf.specs.below.Writing.{brings, noted}
use Rattle.shelf.specs.declared.entries.Records.{Records}
use Rattle.shelf.proofs.general.CountLaws.{count_most}
use Rattle.shelf.proofs.calls.PlanLaws.{noted_on, noted_off, next_picked, next_passed}
use Rattle.shelf.proofs.calls.SourceLaws.{mapped_start, mapped_turn}
use borrow.Author.Rules.{rules}
use Rattle.shelf.proofs.plan.note.Goals as goal
use Rattle.shelf.proofs.plan.note.Goals.{then-pre-i, else-pre-i, then-brings, else-brings}

pub loop-i-init : goal.loop-i-init
unfolding count
loop-i-init c = record { long = search rules; next_ori = omega arith; next_cur = omega arith; noted = mapped_start _ no_records c.args.entries.now }

pub overflow_cast-records : goal.overflow_cast-records
overflow_cast-records c = omega (arith, c.loop-i.invariant.next_ori, count_most c.loop-i.i (tested c.args.pre.now))

pub overflow_cast-records-then-brings : goal.overflow_cast-records-then-brings
overflow_cast-records-then-brings c = omega (arith, c.loop-i.invariant.next_cur, count_most c.loop-i.i (brings c.args.share.now))

pub overflow_add-ori : goal.overflow_add-ori
overflow_add-ori c = omega (arith, c.loop-i.invariant.next_ori, count_most c.loop-i.i (tested c.args.pre.now))

pub overflow_add-cur : goal.overflow_add-cur
overflow_add-cur c = omega (arith, c.loop-i.invariant.next_cur, count_most c.loop-i.i (brings c.args.share.now))

pub loop-i-preserved : goal.loop-i-preserved
loop-i-preserved c =
    let a = c.args in
    let at = c.loop-i in
    let I = at.invariant in
    let p = tested a.pre.now in
    let w = brings a.share.now in
    let ori = λ (k : ℕ). (records_in a.entries.now k).ori in
    let cur = λ (k : ℕ). (records_in a.entries.now k).cur in
    let old = I.noted.above at.i (omega arith) in
    let o : c.if-brings.records.ori ≡ noted a.r p ori at.i =
    elim c.if-brings.branch [ then-brings z ↦ ap (λ (r : Records). r.ori) z.records-is | else-brings z ↦ ap (λ (r : Records). r.ori) z.records-is ]
    ∙ elim c.if-pre-i.branch [
      | then-pre-i z ↦ ap (λ (r : Records). r.ori) z.records-is ∙ ap Some I.next_ori ∙ sym (noted_on a.r p ori at.i z.if-pre-i.true)
      | else-pre-i z ↦ ap (λ (r : Records). r.ori) (z.records-is ∙ old) ∙ sym (noted_off a.r p ori at.i z.if-pre-i.false)
    ] in
    let u : c.if-brings.records.cur ≡ noted a.q w cur at.i =
    elim c.if-brings.branch [
      | then-brings z ↦
          ap (λ (r : Records). r.cur) z.records-is ∙ ap Some I.next_cur ∙ sym (noted_on a.q w cur at.i (sym c.brings.ensures ∙ z.if-brings.true))
      | else-brings z ↦
          ap (λ (r : Records). r.cur) z.records-is
          ∙ elim c.if-pre-i.branch [ then-pre-i y ↦ ap (λ (r : Records). r.cur) y.records-is | else-pre-i y ↦ ap (λ (r : Records). r.cur) y.records-is ]
          ∙ ap (λ (r : Records). r.cur) old
          ∙ sym (noted_off a.q w cur at.i (sym c.brings.ensures ∙ z.if-brings.false))
    ] in
    record {
      long = length-set at.entries at.i c.if-brings.records ∙ I.long;
      next_ori = elim c.if-pre-i.branch [
        | then-pre-i z ↦ z.ori-is ∙ next_picked a.r at.i p at.ori I.next_ori z.if-pre-i.true
        | else-pre-i z ↦ z.ori-is ∙ next_passed a.r at.i p at.ori I.next_ori z.if-pre-i.false
      ];
      next_cur = elim c.if-brings.branch [
        | then-brings z ↦ z.cur-is ∙ next_picked a.q at.i w at.cur I.next_cur (sym c.brings.ensures ∙ z.if-brings.true)
        | else-brings z ↦ z.cur-is ∙ next_passed a.q at.i w at.cur I.next_cur (sym c.brings.ensures ∙ z.if-brings.false)
      ];
      noted = mapped_turn at.i (λ j. record { ori = noted a.r p ori j; cur = noted a.q w cur j }) no_records a.entries.now at.entries c.if-brings.records
          (omega (arith, I.long, c.requires.d_bound))
          (λ i. record { ori = o i; cur = u i }) I.noted;
    }

pub returns-clause-next : goal.returns-clause-next
returns-clause-next c =
    let done : c.loop-i.i ≡ c.args.d = omega arith in
    c.loop-i.invariant.next_cur ∙ ap (λ (k : ℕ). c.args.q + count k (brings c.args.share.now)) done
