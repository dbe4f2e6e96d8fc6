-- `shelf::write::store_new` meets its contract.
-- Assumes nothing.
use Rattle.std.specs.Prelude.{Option, None, unwrap_or}
use mathlib.Core.Path.{◌≡◌, refl, sym, ap, ap₂, ◌∙◌, subst}
use Prim.Native.Nat.{ℕ, ◌+◌, ◌*◌, ◌≤◌, ◌<◌}
use native.Mathlib.Omega.{arith}
use lib.ListN.{length, get_or}
use Rattle.stripe.specs.Blocks.{block, put}
use Rattle.shelf.specs.Members.{place_at}
use Rattle.shelf.specs.below.Writing.{copied, brings, from_in, new_stored}
use Rattle.shelf.proofs.agreement.ListedLaws.{some_is, none_is}
use Rattle.shelf.proofs.numbers.RecordLaws.{roles-tabled}
use Rattle.shelf.proofs.calls.CopyLaws.{places_within, copied_turn, copied_skip}
use Rattle.shelf.proofs.write.store_new.Goals as goal
use Rattle.shelf.proofs.write.store_new.Goals.{in-Some, in_default}

pub loop-i-init : goal.loop-i-init
unfolding copied
loop-i-init c = refl

pub copy_block-requires-clause-from_in_bounds : goal.copy_block-requires-clause-from_in_bounds
copy_block-requires-clause-from_in_bounds c =
    let a = c.args in
    let i = c.loop-i.i in
    subst (λ (o : Option ℕ). unwrap_or o 0 * a.g.b + a.g.b ≤ length a.share.now.source.now) c.in-Some.is
    (c.requires.within i c.loop-i-test.true (some_is (get_or a.share.now.from i None) c.in-Some.k c.in-Some.is))

pub copy_block-requires-clause-to_in_bounds : goal.copy_block-requires-clause-to_in_bounds
copy_block-requires-clause-to_in_bounds c =
    let a = c.args in
    let i = c.loop-i.i in
    let low : i < a.g.d = c.loop-i-test.true in
    let within =
    places_within a.g a.share.now.x (brings a.share.now) a.array.now c.requires.stripe c.requires.long i low
    (some_is (get_or a.share.now.from i None) c.in-Some.k c.in-Some.is) in
    subst (λ (k : ℕ). k * a.g.b + a.g.b ≤ length c.loop-i.array) (sym ((roles-tabled a.g c.roles.result c.roles.ensures.number_value c.roles.ensures.d_value c.roles.ensures.parities_value a.share.now.x c.block_numbers-at.result c.block_numbers-at.ensures) i (omega arith))) (omega (arith, within, c.loop-i.auto.array))

pub loop-i-preserved : goal.loop-i-preserved
loop-i-preserved c =
    let a = c.args in
    let at = c.loop-i in
    let w = brings a.share.now in
    elim c.match-share-i.branch [
      | in-Some z ↦
          copied_turn at.i w (from_in a.share.now) (place_at a.g a.share.now.x) a.g.b a.share.now.source.now a.array.now at.array c.match-share-i.array at.invariant
          (some_is (get_or a.share.now.from at.i None) z.in-Some.k z.in-Some.is)
          (z.array-is ∙ z.copy_block.ensures
          ∙ ap₂ (λ (k n : ℕ). put a.g.b k (block a.g.b n a.share.now.source.now) at.array) ((roles-tabled a.g c.roles.result c.roles.ensures.number_value c.roles.ensures.d_value c.roles.ensures.parities_value a.share.now.x c.block_numbers-at.result c.block_numbers-at.ensures) at.i (omega (arith, c.loop-i-test.true)))
          (sym (ap (λ (o : Option ℕ). unwrap_or o 0) z.in-Some.is)))
      | in_default z ↦
          copied_skip at.i w (from_in a.share.now) (place_at a.g a.share.now.x) a.g.b a.share.now.source.now a.array.now at.array c.match-share-i.array at.invariant
          (none_is (get_or a.share.now.from at.i None) z.in_default.is) z.array-is
    ]

pub returns : goal.returns
unfolding new_stored
returns c =
    let a = c.args in
    let done : c.loop-i.i ≡ a.g.d = omega arith in
    c.loop-i.invariant ∙ ap (λ (n : ℕ). copied n (brings a.share.now) (from_in a.share.now) (place_at a.g a.share.now.x) a.g.b a.share.now.source.now a.array.now) done
