-- `lines::held::HeldLine::is_empty` meets its contract.
-- Assumes nothing.
use mathlib.Core.Path.{◌∙◌, sym}
use native.Mathlib.Omega.{arith}
use Rattle.lines.proofs.HeldLaws.{empty_by}
use Rattle.lines.proofs.held.HeldLine.is_empty.Goals as goal

pub returns : goal.returns
returns c =
    let s = c.self.inside in
    let e = empty_by s.bytes s.len in
    let v = c.self.view_is in
    rw c.eq.ensures (λ t. sym v ∙ e.0 t, λ z. e.1 (v ∙ z) (omega (arith, c.self.told)))
