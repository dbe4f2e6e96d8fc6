-- `shelf::log::log_new` meets its contract.
-- Assumes nothing.
use Rattle.std.specs.Prelude.{Option, None, unwrap_or}
use mathlib.Core.Path.{◌≡◌, refl, sym, ap, ap₂, ◌∙◌, subst}
use Prim.Native.Nat.{ℕ, ◌+◌, ◌*◌, ◌≤◌}
use native.Mathlib.Omega.{arith}
use lib.ListN.{length, get_or}
use Rattle.stripe.specs.Blocks.{block, put}
use Rattle.shelf.specs.below.Entries.{records_in}
use Rattle.shelf.specs.below.Writing.{copied, brings, from_in, cur_in, new_logged}
use Rattle.shelf.proofs.general.TestLaws.{clash}
use Rattle.shelf.proofs.agreement.ListedLaws.{some_is, none_is}
use Rattle.shelf.proofs.calls.CopyLaws.{copied_turn, copied_skip}
use Rattle.shelf.proofs.log.log_new.Goals as goal
use Rattle.shelf.proofs.log.log_new.Goals.{in-Some+in-Some-cur, in-Some+in_default-cur, in_default}

pub loop-i-init : goal.loop-i-init
unfolding copied
loop-i-init c = refl

pub copy_block-requires-clause-from_in_bounds : goal.copy_block-requires-clause-from_in_bounds
copy_block-requires-clause-from_in_bounds c =
    let a = c.args in
    let i = c.loop-i.i in
    subst (λ (o : Option ℕ). unwrap_or o 0 * a.g.b + a.g.b ≤ length a.share.now.source.now) c.in-Some.is
    (c.requires.within i c.loop-i-test.true (some_is (get_or a.share.now.from i None) c.in-Some.k c.in-Some.is))

pub copy_block-requires-clause-to_in_bounds : goal.copy_block-requires-clause-to_in_bounds
copy_block-requires-clause-to_in_bounds c =
    let a = c.args in
    let i = c.loop-i.i in
    let on = some_is (get_or a.share.now.from i None) c.in-Some.k c.in-Some.is in
    subst (λ (o : Option ℕ). unwrap_or o 0 * a.g.b + a.g.b ≤ length c.loop-i.log) c.in-Some-cur.is
    (omega (arith, (c.requires.records i c.loop-i-test.true on).1, c.loop-i.auto.log))

pub loop-i-preserved : goal.loop-i-preserved
loop-i-preserved c =
    let a = c.args in
    let at = c.loop-i in
    let w = brings a.share.now in
    elim c.match-share-i.branch [
      | in-Some+in-Some-cur z ↦
          copied_turn at.i w (from_in a.share.now) (cur_in a.plan.now) a.g.b a.share.now.source.now a.log.now at.log c.match-share-i.log at.invariant
          (some_is (get_or a.share.now.from at.i None) z.in-Some.k z.in-Some.is)
          (z.log-is ∙ z.copy_block.ensures
          ∙ ap₂ (λ (k n : ℕ). put a.g.b k (block a.g.b n a.share.now.source.now) at.log) (sym (ap (λ (o : Option ℕ). unwrap_or o 0) z.in-Some-cur.is))
          (sym (ap (λ (o : Option ℕ). unwrap_or o 0) z.in-Some.is)))
      | in-Some+in_default-cur z ↦
          clash (c.requires.records at.i c.loop-i-test.true (some_is (get_or a.share.now.from at.i None) z.in-Some.k z.in-Some.is)).0
          (none_is (records_in a.plan.now.entries at.i).cur z.in_default-cur.is)
      | in_default z ↦
          copied_skip at.i w (from_in a.share.now) (cur_in a.plan.now) a.g.b a.share.now.source.now a.log.now at.log c.match-share-i.log at.invariant
          (none_is (get_or a.share.now.from at.i None) z.in_default.is) z.log-is
    ]

pub returns : goal.returns
unfolding new_logged
returns c =
    let a = c.args in
    let done : c.loop-i.i ≡ a.g.d = omega arith in
    c.loop-i.invariant ∙ ap (λ (n : ℕ). copied n (brings a.share.now) (from_in a.share.now) (cur_in a.plan.now) a.g.b a.share.now.source.now a.log.now) done
