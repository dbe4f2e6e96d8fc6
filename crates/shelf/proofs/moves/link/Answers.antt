-- `shelf::moves::link` meets its contract.
-- Assumes nothing.
use Rattle.shelf.specs.Words.{words}
use Rattle.shelf.proofs.hashlist.FillLaws.{link_made}
use Rattle.shelf.proofs.moves.link.Goals as goal

pub returns : goal.returns
returns c =
    let a = c.args in
    let r = c.address in
    let r2 = c.word-n in
    link_made (words a.list.now) a.h a.p r.result r2.result r.ensures r2.ensures
    c.put_next.ensures c.put_word.ensures
