-- `stripe::recover::Shape::recover_data` meets its contract: two blocks of data are missing, one or none.
-- Assumes nothing.
use native.Mathlib.Omega.{arith}
use Rattle.stripe.proofs.RecoverLaws.{data_one, data_one_second, data_none}
use Rattle.stripe.proofs.recover.Shape.recover_data.Goals as goal

pub returns-then-x-self-2 : goal.returns-then-x-self-2
returns-then-x-self-2 c =
    let a = c.args in
    let s = c.args.self.now in
    data_one s.d s.parities s.b a.x a.y a.stripe.now _ c.if-x-self-2.true
    (grind arith)
    c.recover_one.ensures

pub returns-then-y-self-2 : goal.returns-then-y-self-2
returns-then-y-self-2 c =
    let a = c.args in
    let s = c.args.self.now in
    data_one_second s.d s.parities s.b a.x a.y a.stripe.now _ c.if-x-self-2.false c.if-y-self-2.true c.recover_one-then-y-self-2.ensures

pub returns-else-y-self-2 : goal.returns-else-y-self-2
returns-else-y-self-2 c =
    let a = c.args in
    let s = c.args.self.now in
    data_none s.d s.parities s.b a.x a.y a.stripe.now c.requires.workable.whole c.if-x-self-2.false c.if-y-self-2.false
