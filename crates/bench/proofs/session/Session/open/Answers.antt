-- `bench::session::Session::open` meets its contract.
-- Assumes nothing.
use mathlib.Core.Path.{refl, sym, ap, ◌∙◌}
use Rattle.lines.specs.MeasureLines.{measures_line}
use Rattle.shelf.specs.Lent.{Lent, formatted}
use Rattle.bench.specs.Bench.{geometry_of, fits}
use Rattle.bench.proofs.ServeLaws.{opens_refused, opens_made, formatted-fits}
use Rattle.bench.proofs.session.Session.open.Goals as goal

pub returns-then-not-fits : goal.returns-then-not-fits
returns-then-not-fits c =
    let g = c.geometry_of-g.ensures ∙ ap geometry_of (c.read_measures.ensures ∙ ap measures_line c.line.ensures.value) in
    opens_refused _ _ _ _ _ _ c.requires c.put_format.auto.out (ap fits (sym g) ∙ sym c.fits.ensures ∙ c.if-not-fits.true) c.put_format.ensures refl refl

pub invariant_of-self-2 : goal.invariant_of-self-2
invariant_of-self-2 c =
    record { ready = λ _. ap (λ (h : Lent). fits h.shelf.geometry) c.format.ensures ∙ formatted-fits _ (sym c.fits.ensures ∙ c.if-not-fits.false) }

pub returns : goal.returns
returns c =
    let g = c.geometry_of-g.ensures ∙ ap geometry_of (c.read_measures.ensures ∙ ap measures_line c.line.ensures.value) in
    opens_made _ _ _ _ _ _ c.requires c.put_format-2.auto.out (ap fits (sym g) ∙ sym c.fits.ensures ∙ c.if-not-fits.false) c.put_format-2.ensures refl
    (c.format.ensures ∙ ap formatted g)
