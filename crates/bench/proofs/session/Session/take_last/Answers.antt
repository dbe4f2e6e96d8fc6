-- `bench::session::Session::take_last` meets its contract.
-- Assumes nothing.
use Rattle.bench.proofs.SessionLaws.{last_none, last_some}
use mathlib.Core.Bool.{false≢true}
use mathlib.Core.Path.{sym, ◌∙◌}
use Rattle.bench.proofs.session.Session.take_last.Goals as goal

pub returns-then-is_empty-clause-ends : goal.returns-then-is_empty-clause-ends
returns-then-is_empty-clause-ends c = λ t k. last_none _ t _ _ k (c.is_empty.ensures.0 c.if-is_empty.true)

pub returns-clause-ends : goal.returns-clause-ends
returns-clause-ends c = λ t k. last_some _ t _ _ _ _ _ k (λ e. false≢true (sym c.if-is_empty.false ∙ c.is_empty.ensures.1 e)) c.take_line.ensures.made
