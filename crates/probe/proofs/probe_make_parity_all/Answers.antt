-- `probe::probe_make_parity_all` meets its contract: refused with nothing stored, or made.
-- Assumes nothing.
use mathlib.Core.Path.{sym, ◌∙◌}
use lib.ListN.{length}
use Rattle.stripe.proofs.CallLaws.{passes, refuses}
use Rattle.probe.proofs.ProbeLaws.{all-measures, all_done, all-kept}
use Rattle.probe.proofs.probe_make_parity_all.Goals.{then-is_ok, else-is_ok}
use Rattle.probe.proofs.probe_make_parity_all.Goals as goal

pub invariant_of-fixed : goal.invariant_of-fixed
invariant_of-fixed c =
    let a = c.args in
    let checked = c.check_all-checked in
    let whole = all-measures a.d a.parities a.s a.b (length a.array.now) (passes checked.result (sym c.is_ok.ensures.value ∙ c.if-is_ok.true) ∙ checked.ensures) in
    record { d_most = whole.1.0; parities_least = whole.1.1.0; parities_most = whole.1.1.1.0 }

pub make_all_parity-requires : goal.make_all_parity-requires
make_all_parity-requires c =
    let a = c.args in
    let checked = c.check_all-checked in
    let whole = all-measures a.d a.parities a.s a.b (length a.array.now) (passes checked.result (sym c.is_ok.ensures.value ∙ c.if-is_ok.true) ∙ checked.ensures) in
    record {
      le_d = whole.0;
      stripes_bound = whole.1.1.1.1.0;
      le_b = whole.1.1.1.1.1.0;
      b_bound = whole.1.1.1.1.1.1.0;
      array_len = whole.1.1.1.1.1.1.1;
    }

pub returns-clause-array_after : goal.returns-clause-array_after
returns-clause-array_after c =
    let a = c.args in
    let checked = c.check_all-checked in
    let told = sym c.is_ok.ensures.value in
    elim c.if-is_ok.branch [
      | then-is_ok w ↦
          w.array-is ∙ all_done a.d a.parities a.s a.b a.array.now _ (passes checked.result (told ∙ w.if-is_ok.true) ∙ checked.ensures) w.make_all_parity.ensures
      | else-is_ok w ↦ w.array-is ∙ all-kept a.d a.parities a.s a.b _ a.array.now (refuses checked.result (told ∙ w.if-is_ok.false)) checked.ensures
    ]
