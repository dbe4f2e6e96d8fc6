-- `lines::answers::put_decimal` meets its contract, and calls itself on ever smaller numbers.
-- Assumes nothing.
use mathlib.Core.Path.{◌≡◌, sym, ap, ◌∙◌}
use mathlib.Core.List.{◌∷◌, []}
use Prim.Native.Nat.{ℕ, ◌+◌, ◌%◌}
use native.Mathlib.Omega.{arith}
use Rattle.lines.proofs.AnswerLaws.{decimal_few, decimal_more, decimal_one, decimal_longer, puts_byte, puts_then, puts_text}
use Rattle.lines.proofs.answers.+put_decimal.Goals as goal

pub bounds-out-at : goal.bounds-out-at
bounds-out-at t c = omega (arith, decimal_one c.args.n c.if-n-lt10.true)

pub returns-then-n-lt10 : goal.returns-then-n-lt10
returns-then-n-lt10 t c =
    let n = c.args.n in
    let d : 48 + n % 10 ≡ 48 + n = omega arith in
    puts_text (ap (λ (x : ℕ). x ∷ []) d ∙ sym (decimal_few n c.if-n-lt10.true)) (puts_byte _ _ _ (omega (arith, decimal_one n c.if-n-lt10.true)))

pub put_decimal-end-requires : goal.put_decimal-end-requires
put_decimal-end-requires t c =
    let l = decimal_longer c.args.n (omega arith) in
    (omega arith, omega arith)

pub bounds-out-end : goal.bounds-out-end
bounds-out-end t c =
    let l = decimal_longer c.args.n (omega arith) in
    omega (arith, c.put_decimal-end.ensures.ends, c.put_decimal-end.auto.out)

pub returns : goal.returns
returns t c =
    let l = decimal_longer c.args.n (omega arith) in
    puts_text (sym (decimal_more c.args.n (omega arith)))
    (puts_then (omega arith) c.put_decimal-end.ensures
    (puts_byte _ _ _ (omega (arith, c.put_decimal-end.ensures.ends, c.put_decimal-end.auto.out))))
