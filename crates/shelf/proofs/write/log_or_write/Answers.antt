-- `shelf::write::log_or_write` meets its contract.
-- Assumes nothing.
use Rattle.shelf.specs.Lent.{lent}
use Rattle.shelf.proofs.calls.StripesLaws.{no_room, log_asks, room}
use Rattle.shelf.proofs.write.log_or_write.Goals as goal

pub returns-in_default : goal.returns-in_default
returns-in_default c =
    let a = c.args in
    let m = c.write_through in
    no_room a.shelf a.array.now a.log.now a.list.now a.share.now c.requires.mode_value c.requires.writable c.in_default.ensures m.result
    m.new.array m.new.list m.ensures

pub log_stripe-requires : goal.log_stripe-requires
log_stripe-requires c =
    let a = c.args in
    log_asks a.shelf a.array.now a.log.now a.list.now a.share.now c.requires.mode_value c.requires.writable c.in-Some.plan
    c.in-Some.ensures c.requires.log_len

pub returns : goal.returns
returns c =
    let a = c.args in
    let w = c.log_stripe in
    room a.shelf a.array.now a.log.now a.list.now a.share.now c.requires.mode_value c.requires.writable c.in-Some.plan c.in-Some.ensures
    (lent w.result w.new.array w.new.log w.new.list) w.ensures
