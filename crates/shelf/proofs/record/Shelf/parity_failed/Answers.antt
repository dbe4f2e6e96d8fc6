-- `shelf::record::Shelf::parity_failed` meets its contract: one parity after the other.
-- Assumes nothing.
use mathlib.Core.Path.{sym, ◌∙◌}
use native.Mathlib.Omega.{arith}
use borrow.Author.Tests.{ne_eqb}
use Rattle.shelf.proofs.numbers.RecordLaws.{parity_lost, parity-only, parity_both}
use Rattle.shelf.proofs.record.Shelf.parity_failed.Goals as goal

pub returns-then-role_failed : goal.returns-then-role_failed
returns-then-role_failed c = c.if-role_failed.true ∙ sym (parity_lost c.args.self c.args.x c.requires.1.0 (sym c.role_failed.ensures ∙ c.if-role_failed.true))

pub returns-then-g-eq2 : goal.returns-then-g-eq2
returns-then-g-eq2 c = c.role_failed-then-g-eq2.ensures ∙ sym (parity_both c.args.self c.args.x c.if-g-eq2.true (sym c.role_failed.ensures ∙ c.if-role_failed.false))

pub returns-else-g-eq2 : goal.returns-else-g-eq2
returns-else-g-eq2 c =
    ne_eqb c.args.self.geometry.parities 2 c.if-g-eq2.false ∙ sym (parity-only c.args.self c.args.x (omega (arith, c.requires.1.0, c.requires.1.1, c.if-g-eq2.false)) (sym c.role_failed.ensures ∙ c.if-role_failed.false))
