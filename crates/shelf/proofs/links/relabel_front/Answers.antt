-- `shelf::links::relabel_front` meets its contract.
-- Assumes nothing.
use Rattle.shelf.specs.Words.{words}
use Rattle.shelf.proofs.hashlist.LinkLaws.{front_relabelled}
use Rattle.shelf.proofs.links.relabel_front.Goals as goal

pub returns : goal.returns
returns g c =
    let a = c.args in
    front_relabelled _ a.h a.p (words a.front.now) (words c.relabel.new.list) (words c.relabel-2.new.list) c.relabel.ensures c.relabel-2.ensures
