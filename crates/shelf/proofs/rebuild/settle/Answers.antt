-- `shelf::rebuild::settle` meets its contract.
-- Assumes nothing.
use mathlib.Core.Path.{ap, ◌∙◌}
use Rattle.shelf.specs.below.Records.{with_listed}
use Rattle.shelf.specs.declared.record.Shelf.{Shelf}
use Rattle.shelf.proofs.calls.RebuildLaws.{settled_by}
use Rattle.shelf.proofs.rebuild.settle.Goals as goal

pub returns : goal.returns
returns c =
    let n = c.drop_lost-n in
    let settled =
    settled_by c.args.shelf c.drop_to.result n.result c.args.list.now n.new.list (c.drop_to.ensures ∙ ap (λ (v : Shelf). with_listed v n.result) c.clear_array-cleared.ensures) n.ensures in
    record { rewritten = settled.0; value = settled.1 }
