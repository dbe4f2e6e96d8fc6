-- `bench::session::Session::answer` meets its contract.
-- Assumes nothing.
use mathlib.Core.Path.{ap, ◌∙◌}
use Rattle.lines.specs.RequestLines.{request_line}
use Rattle.bench.specs.Bench.{fits}
use Rattle.bench.proofs.BenchLaws.{performed-geometry}
use Rattle.bench.proofs.ServeLaws.{answers_made}
use Rattle.bench.proofs.session.Session.answer.Goals as goal

pub invariant_of-self : goal.invariant_of-self
invariant_of-self c =
    let p = c.perform-outcome in
    record { ready = λ t. ap fits (performed-geometry _ _ _ _ _ p.ensures.performed) ∙ c.args.self.now.ready t }

pub returns : goal.returns
returns c =
    let p = c.perform-outcome in
    answers_made _ _ _ _ p.result.code p.result.first _ _ _ c.requires.out_len c.put_answer.auto.out (c.read_request-request.ensures ∙ ap request_line c.line.ensures.value)
    p.ensures.performed (rw (c.into.ensures, p.ensures.shelf) at c.put_answer.ensures) c.requires.stage
