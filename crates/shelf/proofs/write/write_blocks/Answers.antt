-- `shelf::write::write_blocks` meets its contract. The loop's invariant: the stripes before x are written.
-- Assumes nothing.
use Prim.Native.Nat.{◌+◌, ◌-◌, ◌/◌, ◌≤◌, ◌<◌}
use native.Mathlib.Omega.{arith}
use Rattle.shelf.specs.Lent.{lent}
use Rattle.shelf.proofs.calls.ServedLaws.{addresses_small}
use Rattle.shelf.proofs.calls.StripesLaws.{written_start, written_all, start_end, end_within, stripe_asks, stripe_turn}
use Rattle.shelf.proofs.write.write_blocks.Goals as goal

pub overflow_add-end : goal.overflow_add-end
overflow_add-end c =
    let a = c in
    omega (arith, addresses_small a.args.shelf.geometry a.requires.range, a.requires.fits)

pub overflow_add-end-2 : goal.overflow_add-end-2
overflow_add-end-2 c =
    let a = c in
    omega (arith, end_within a.args.shelf.geometry a.requires.range a.args.a a.args.n a.requires.some a.requires.fits, a.requires.range.s_most)

pub loop-x-init : goal.loop-x-init
loop-x-init c =
    let a = c in
    let low = start_end a.args.shelf.geometry a.requires.range a.args.a a.args.n a.requires.some in
    (omega arith, (omega (arith, low), written_start a.args.shelf a.args.array.now a.args.log.now a.args.list.now a.args.a a.args.n a.args.source.now (a.args.a / a.args.shelf.geometry.d) a.requires.range a.requires.some (omega arith) a.requires.shows))

pub share_of-share-requires-clause-x_lt_s : goal.share_of-share-requires-clause-x_lt_s
share_of-share-requires-clause-x_lt_s c =
    let a = c in
    let last = end_within a.args.shelf.geometry a.requires.range a.args.a a.args.n a.requires.some a.requires.fits in
    let under : c.loop-x.x < a.args.shelf.geometry.s = omega (arith, last, c.loop-x-test.true) in
    under

pub write_stripe-after-requires-clause-writable : goal.write_stripe-after-requires-clause-writable
write_stripe-after-requires-clause-writable c =
    let a = c in
    let at-loop = c.loop-x in
    let taken = c.loop-x-test.true in
    let last = end_within a.args.shelf.geometry a.requires.range a.args.a a.args.n a.requires.some a.requires.fits in
    let under : at-loop.x < a.args.shelf.geometry.s = omega (arith, last, taken) in
    let share = c.share_of-share in
    let high : at-loop.x ≤ (a.args.a + a.args.n - 1) / a.args.shelf.geometry.d = omega (arith, taken) in
    let whole = stripe_asks (lent a.args.shelf a.args.array.now a.args.log.now a.args.list.now) a.args.a a.args.n a.args.source.now a.requires.range a.requires.some a.requires.long at-loop.after at-loop.array at-loop.log at-loop.list at-loop.x at-loop.invariant.1.1 at-loop.invariant.0 high under share.result share.ensures in
    whole.0

pub write_stripe-after-requires-clause-log_len : goal.write_stripe-after-requires-clause-log_len
write_stripe-after-requires-clause-log_len c =
    let a = c in
    let at-loop = c.loop-x in
    let taken = c.loop-x-test.true in
    let last = end_within a.args.shelf.geometry a.requires.range a.args.a a.args.n a.requires.some a.requires.fits in
    let under : at-loop.x < a.args.shelf.geometry.s = omega (arith, last, taken) in
    let share = c.share_of-share in
    let high : at-loop.x ≤ (a.args.a + a.args.n - 1) / a.args.shelf.geometry.d = omega (arith, taken) in
    let whole = stripe_asks (lent a.args.shelf a.args.array.now a.args.log.now a.args.list.now) a.args.a a.args.n a.args.source.now a.requires.range a.requires.some a.requires.long at-loop.after at-loop.array at-loop.log at-loop.list at-loop.x at-loop.invariant.1.1 at-loop.invariant.0 high under share.result share.ensures in
    whole.1

pub loop-x-preserved : goal.loop-x-preserved
loop-x-preserved c =
    let a = c in
    let at-loop = c.loop-x in
    let taken = c.loop-x-test.true in
    let last = end_within a.args.shelf.geometry a.requires.range a.args.a a.args.n a.requires.some a.requires.fits in
    let under : at-loop.x < a.args.shelf.geometry.s = omega (arith, last, taken) in
    let share = c.share_of-share in
    let w = c.write_stripe-after in
    let low = at-loop.invariant.0 in
    let high : at-loop.x ≤ (a.args.a + a.args.n - 1) / a.args.shelf.geometry.d = omega (arith, taken) in
    (omega (arith, low), (omega (arith, taken), stripe_turn (lent a.args.shelf a.args.array.now a.args.log.now a.args.list.now) a.args.a a.args.n a.args.source.now a.requires.range a.requires.some a.requires.long at-loop.after at-loop.array at-loop.log at-loop.list at-loop.x at-loop.invariant.1.1 at-loop.invariant.0 high under share.result share.ensures w.result w.new.array w.new.log w.new.list w.ensures))

pub returns : goal.returns
returns c =
    let a = c in
    let at-loop = c.loop-x in
    let left = c.loop-x-test.false in
    let last = end_within a.args.shelf.geometry a.requires.range a.args.a a.args.n a.requires.some a.requires.fits in
    let most = at-loop.invariant.1.0 in
    let past : (a.args.a + a.args.n - 1) / a.args.shelf.geometry.d < at-loop.x = omega (arith, left) in
    let within : at-loop.x ≤ a.args.shelf.geometry.s = omega (arith, last, most) in
    written_all (lent a.args.shelf a.args.array.now a.args.log.now a.args.list.now) (lent at-loop.after at-loop.array at-loop.log at-loop.list) at-loop.x a.args.a a.args.n a.args.source.now a.requires.range a.requires.some past within at-loop.invariant.1.1
