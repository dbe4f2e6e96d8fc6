-- `shelf::fetch::fetch_blocks` meets its contract. Where no array member has failed, what a read gives is what a fetch gives. The loop's invariant: the first j blocks that the fetch gives are put in.
-- Assumes nothing.
use mathlib.Core.Path.{refl, ◌∙◌, ap, subst, sym}
use Prim.Native.Nat.{◌+◌, ◌≤◌, ◌<◌}
use native.Mathlib.Nat.{mul-le-mul_right}
use native.Mathlib.Omega.{arith}
use lib.ListN.{length}
use Rattle.shelf.specs.Members.{wanted}
use Rattle.shelf.specs.Lent.{lent, state_of}
use Rattle.shelf.specs.below.Reading.{served_block}
use Rattle.shelf.proofs.agreement.ReadLaws.{sound_as_fetch}
use Rattle.shelf.proofs.general.AddressLaws.{spot_within}
use Rattle.shelf.proofs.calls.GivenLaws.{FilledTo, filled_all, given_length, served_filled}
use Rattle.shelf.proofs.calls.ServedLaws.{wanted-sound}
use Rattle.shelf.proofs.fetch.fetch_blocks.Goals as goal

pub returns-then-not-array_failed : goal.returns-then-not-array_failed
unfolding state_of
returns-then-not-array_failed c =
    let a = c.args in
    c.read_blocks.ensures
    ∙ sound_as_fetch a.shelf.geometry (state_of (lent a.shelf a.array.now a.log.now a.list.now)) a.a a.n
    (λ j _. wanted-sound a.shelf (omega (arith, c.requires.ready.listing.range.d_least)) (sym c.array_failed.ensures ∙ c.if-not-array_failed.true) a.a j)

pub put_blocks-requires-clause-b_in_bounds : goal.put_blocks-requires-clause-b_in_bounds
put_blocks-requires-clause-b_in_bounds c =
    let a = c.args in
    let W = c.loop-j in
    let m = c.min-m.result in
    let within : W.j + m ≤ a.n = omega (arith, c.min-m.ensures) in
    omega (arith, W.invariant.size, mul-le-mul_right a.shelf.geometry.b within)

pub loop-j-preserved : goal.loop-j-preserved
loop-j-preserved c =
    let a = c.args in
    let g = a.shelf.geometry in
    let W = c.loop-j in
    let at = c.of-spot in
    let m = c.min-m.result in
    let h = lent a.shelf a.array.now a.log.now a.list.now in
    let here : W.j < a.n = c.loop-j-test.true in
    let low = spot_within (a.a + W.j) g.d g.s at.result.x at.result.i (omega arith) at.ensures.i_value (omega (arith, c.requires.n_bound)) in
    let all =
    served_filled g h refl a.a a.n at.result.x at.result.i W.j at.ensures.i_value m (omega arith) (omega arith)
    (λ k hk. given_length a.shelf a.array.now a.log.now a.list.now c.requires.ready at.result.x low (at.result.i + k) hk) W.out W.invariant.size W.invariant.filled in
    record {
      so_far = omega arith;
      size = ap length c.put_blocks.ensures ∙ all.0;
      filled = subst (FilledTo g.b (wanted g (served_block h) a.a) (W.j + m)) (sym c.put_blocks.ensures) all.1;
    }

pub returns : goal.returns
returns c =
    let a = c.args in
    let W = c.loop-j in
    filled_all a.shelf.geometry (served_block (lent a.shelf a.array.now a.log.now a.list.now)) a.a a.n W.j W.out W.invariant.size W.invariant.filled (omega arith)
