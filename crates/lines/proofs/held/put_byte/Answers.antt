-- `lines::held::put_byte` meets its contract.
-- Assumes nothing.
use mathlib.Core.Bool.{true, false, ◌&&◌}
use mathlib.Core.Path.{◌≡◌, refl, sym, ap, ◌∙◌}
use native.Mathlib.Omega.{arith}
use lib.ListN.{take}
use lib.Seq.{length-take-le}
use Rattle.std.specs.Prelude.{option_map}
use Rattle.lines.specs.Fields.{is_digit}
use Rattle.lines.specs.Held.{last_zero}
use Rattle.lines.proofs.FieldLaws.{ascii_digit}
use Rattle.lines.proofs.HeldLaws.{place_some, no_place_zero, no_place_digit, extends_told, extends_over, extends_place, extends_behind, extends_full}
use Rattle.lines.proofs.held.put_byte.Goals.{else-ends_in_lone_zero-via-then-ends_in_lone_zero+else-is_ascii_digit, else-ends_in_lone_zero-via-else-ends_in_lone_zero}
use Rattle.lines.proofs.held.put_byte.Goals as goal

pub returns-in_default-clause-extends : goal.returns-in_default-clause-extends
returns-in_default-clause-extends c =
    let b = c.args.bytes.now in
    let e = sym (ap (option_map (λ n. take n b)) c.in_default.is) in
    extends_told e refl (extends_over _)

pub overflow_sub-bytes : goal.overflow_sub-bytes
overflow_sub-bytes c =
    let n = c.in-Some.n in
    let b = c.args.bytes.now in
    omega (arith, place_some _ (sym c.ends_in_lone_zero.ensures ∙ c.if-ends_in_lone_zero.true), length-take-le n b (omega (arith, c.requires n c.in-Some.is, c.told-bytes)))

pub returns-then-is_ascii_digit-clause-extends : goal.returns-then-is_ascii_digit-clause-extends
returns-then-is_ascii_digit-clause-extends c =
    let n = c.in-Some.n in
    let b = c.args.bytes.now in
    let m = c.requires n c.in-Some.is in
    extends_told
    (sym (ap (option_map (λ n. take n b)) c.in-Some.is))
    refl
    (extends_place b n c.args.x m (omega (arith, c.told-bytes)) (sym (ascii_digit _) ∙ sym c.is_ascii_digit.ensures.value ∙ c.if-is_ascii_digit.true)
    (sym c.ends_in_lone_zero.ensures ∙ c.if-ends_in_lone_zero.true))

pub returns-then-n-lt128-clause-extends : goal.returns-then-n-lt128-clause-extends
returns-then-n-lt128-clause-extends c =
    let n = c.in-Some.n in
    let b = c.args.bytes.now in
    let m = c.requires n c.in-Some.is in
    let e : (is_digit c.args.x && last_zero true (take n b)) ≡ false = elim c.else-ends_in_lone_zero.branch [
      | else-ends_in_lone_zero-via-then-ends_in_lone_zero+else-is_ascii_digit w ↦ no_place_digit _ _ (sym (ascii_digit _) ∙ sym w.is_ascii_digit.ensures.value ∙ w.if-is_ascii_digit.false)
      | else-ends_in_lone_zero-via-else-ends_in_lone_zero w ↦ no_place_zero _ _ (sym c.ends_in_lone_zero.ensures ∙ w.if-ends_in_lone_zero.false)
    ] in
    extends_told (sym (ap (option_map (λ n. take n b)) c.in-Some.is)) refl
    (extends_behind b n c.args.x m (omega (arith, c.told-bytes)) e (omega arith) (omega (arith, c.told-bytes)))

pub returns-else-n-lt128-clause-extends : goal.returns-else-n-lt128-clause-extends
returns-else-n-lt128-clause-extends c =
    let n = c.in-Some.n in
    let b = c.args.bytes.now in
    let m = c.requires n c.in-Some.is in
    let e : (is_digit c.args.x && last_zero true (take n b)) ≡ false = elim c.else-ends_in_lone_zero.branch [
      | else-ends_in_lone_zero-via-then-ends_in_lone_zero+else-is_ascii_digit w ↦ no_place_digit _ _ (sym (ascii_digit _) ∙ sym w.is_ascii_digit.ensures.value ∙ w.if-is_ascii_digit.false)
      | else-ends_in_lone_zero-via-else-ends_in_lone_zero w ↦ no_place_zero _ _ (sym c.ends_in_lone_zero.ensures ∙ w.if-ends_in_lone_zero.false)
    ] in
    extends_told (sym (ap (option_map (λ n. take n b)) c.in-Some.is)) refl
    (extends_full b n c.args.x m (omega (arith, c.told-bytes)) e (omega arith))
