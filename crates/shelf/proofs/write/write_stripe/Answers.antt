-- `shelf::write::write_stripe` meets its contract.
-- Assumes nothing.
use Rattle.shelf.proofs.calls.StripesLaws.{writes_made, other_mode}
use Rattle.shelf.specs.Lent.{lent}
use Rattle.shelf.proofs.write.write_stripe.Goals as goal

pub returns-then-shelf-ne1 : goal.returns-then-shelf-ne1
returns-then-shelf-ne1 c =
    let a = c.args in
    let m = c.write_through in
    let off = c.if-shelf-ne1.true in
    λ s w v S H. writes_made a.shelf.geometry s a.share.now.x w v (lent m.result m.new.array a.log.now m.new.list) (other_mode a.shelf.geometry s (lent a.shelf a.array.now a.log.now a.list.now) a.share.now.x w H off) (m.ensures s w v a.log.now S H)
