-- `shelf::read::read_blocks` meets its contract. The loop's invariant: a walk over the array's blocks, before block j.
-- Assumes nothing.
use mathlib.Core.List.{List}
use mathlib.Core.Path.{refl}
use Prim.Native.Nat.{ℕ, ◌<◌}
use native.Mathlib.Omega.{arith}
use Rattle.stripe.proofs.Laws.{length-block}
use Rattle.shelf.specs.Members.{place_at}
use Rattle.shelf.specs.Lent.{array_block}
use Rattle.shelf.proofs.calls.GivenLaws.{place_room, walk_stripe, walk_turn, walk_end}
use Rattle.shelf.proofs.read.read_blocks.Goals as goal

pub loop-j-preserved : goal.loop-j-preserved
loop-j-preserved c =
    let a = c.args in
    let f : ℕ → ℕ → List ℕ = array_block a.g a.array.now in
    let W = c.loop-j in
    let here : W.j < a.n = c.loop-j-test.true in
    let low = walk_stripe a.g f a.a a.n W.j W.spot.x W.spot.i W.out W.invariant here c.requires.n_bound in
    let room = place_room a.g a.array.now c.requires.array_len W.spot.x W.spot.i (place_at a.g W.spot.x W.spot.i) low (omega (arith, W.invariant.index)) refl in
    walk_turn a.g f a.a a.n W.j W.spot.x W.spot.i W.out W.invariant here c.put_stored.new.out c.next-spot.result.x c.next-spot.result.i
    (length-block a.g.b (place_at a.g W.spot.x W.spot.i) a.array.now room) c.put_stored.ensures c.next-spot.ensures.follows c.next-spot.ensures.within_stripe

pub returns : goal.returns
returns c =
    let a = c.args in
    let W = c.loop-j in
    walk_end a.g (array_block a.g a.array.now) a.a a.n W.j W.spot.x W.spot.i W.out W.invariant (let most = W.invariant.so_far in omega arith)
