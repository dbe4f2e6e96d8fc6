-- `lines::answers::put_numbers` meets its contract.
-- Assumes nothing.
use mathlib.Core.List.{List, [], ◌∷◌, ◌++◌}
use mathlib.Core.Path.{ap, ◌∙◌}
use Prim.Native.Nat.{ℕ}
use native.Mathlib.Omega.{arith}
use lib.ListN.{get_or}
use lib.Seq.{take_all}
use Rattle.lines.proofs.AnswerLaws.{decimal_short, blanked, blanked_more, spelled_blanked, puts_none, puts_byte, puts_then, puts_text}
use Rattle.lines.proofs.answers.put_numbers.Goals as goal

pub loop-n-init : goal.loop-n-init
unfolding blanked
loop-n-init c = (omega arith, puts_none _ _)

pub loop-n-preserved : goal.loop-n-preserved
loop-n-preserved c =
    let l = c.loop-n in
    let p = c.put_number-at in
    let ns = c.args.numbers.now in
    let i = l.n-index in
    let short = decimal_short 19 (get_or ns i 0) (omega (arith, c.type_inv.numbers i)) in (
      omega (arith, p.ensures.ends, p.auto.out),
      puts_text (blanked_more ns i (omega arith)) (puts_then (omega arith) l.invariant.1 p.ensures),
    )

pub returns : goal.returns
returns c =
    let l = c.loop-n in
    let ns = c.args.numbers.now in
    puts_text (ap (λ (ms : List ℕ). blanked ms ++ (10 ∷ [])) (take_all l.n-index ns (omega arith)) ∙ spelled_blanked ns)
    (puts_then (omega arith) l.invariant.1 (puts_byte l.out l.at 10 (omega arith)))
