-- `stripe::recover::Shape::recover_parity` meets its contract: P and Q are named, one of them or none.
-- Assumes nothing.
use mathlib.Core.Path.{sym}
use Rattle.stripe.proofs.RecoverLaws.{parity_both, parity_p_lem, parity_q_lem, parity-none}
use Rattle.stripe.proofs.recover.Shape.recover_parity.Goals as goal

pub returns-in-true-true : goal.returns-in-true-true
returns-in-true-true c =
    let a = c.args in
    let s = c.args.self.now in
    parity_both s.d s.parities s.b a.x a.y a.stripe.now s.measures.parity-most c.requires.workable.whole _ (sym c.in-true-true.ensures) (sym c.in-true-true.ensures') c.make_own_parity.ensures

pub returns-in-true-false : goal.returns-in-true-false
returns-in-true-false c =
    let a = c.args in
    let s = c.args.self.now in
    parity_p_lem s.d s.parities s.b a.x a.y a.stripe.now s.measures.parity-most c.requires.workable.whole _ (sym c.in-true-false.ensures) (sym c.in-true-false.ensures') c.make_p.ensures

pub returns-in-false-true : goal.returns-in-false-true
returns-in-false-true c =
    let a = c.args in
    let s = c.args.self.now in
    parity_q_lem s.d s.parities s.b a.x a.y a.stripe.now s.measures.parity-most c.requires.workable.whole _ (sym c.in-false-true.ensures) (sym c.in-false-true.ensures') c.make_q.ensures

pub returns-in-false-false : goal.returns-in-false-false
returns-in-false-false c =
    let a = c.args in
    let s = c.args.self.now in
    parity-none s.d s.parities s.b a.x a.y a.stripe.now s.measures.parity-most c.requires.workable.whole (sym c.in-false-false.ensures) (sym c.in-false-false.ensures')
