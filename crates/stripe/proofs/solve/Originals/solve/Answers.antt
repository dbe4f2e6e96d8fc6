-- `stripe::solve::Originals::solve` meets its contract: from P alone where it can be, else from Q.
-- Assumes nothing.
use mathlib.Core.Path.{sym, ◌∙◌}
use Rattle.stripe.proofs.SolveLaws.{from_p_when, from_q_when, from_p_lem, from_q_lem}
use Rattle.stripe.proofs.solve.Originals.solve.Goals as goal

pub divide-requires-clause-y_le_d : goal.divide-requires-clause-y_le_d
divide-requires-clause-y_le_d c = (from_q_when c.args.self.now.d c.args.x c.args.y (sym c.comes_from_p.ensures ∙ c.if-comes_from_p.false)).1

pub returns-then-comes_from_p : goal.returns-then-comes_from_p
returns-then-comes_from_p c =
    let o = c.args.self.now in
    from_p_lem o _ o.d c.args.x c.args.y (from_p_when o.d c.args.x c.args.y (sym c.comes_from_p.ensures ∙ c.if-comes_from_p.true)) c.gather_rest.ensures

pub returns-else-comes_from_p : goal.returns-else-comes_from_p
returns-else-comes_from_p c =
    let o = c.args.self.now in
    let way = from_q_when o.d c.args.x c.args.y (sym c.comes_from_p.ensures ∙ c.if-comes_from_p.false) in
    from_q_lem o _ _ c.args.x c.args.y way.0 way.1 c.gather_weighted.ensures c.divide.ensures
