-- `shelf::log::log_pre_read` meets its contract.
-- Assumes nothing.
use Rattle.std.specs.Prelude.{Option, unwrap_or}
use mathlib.Core.Path.{◌≡◌, refl, sym, ap, ap₂, ◌∙◌, subst}
use Prim.Native.Nat.{ℕ, ◌+◌, ◌*◌, ◌≤◌}
use native.Mathlib.Omega.{arith}
use lib.ListN.{length}
use Rattle.stripe.specs.Blocks.{block, put}
use Rattle.shelf.specs.Members.{place_at}
use Rattle.shelf.specs.below.Tables.{tested}
use Rattle.shelf.specs.below.Entries.{records_in}
use Rattle.shelf.specs.below.Writing.{copied, ori_in, pre_logged}
use Rattle.shelf.proofs.general.TestLaws.{clash}
use Rattle.shelf.proofs.agreement.ListedLaws.{none_is}
use Rattle.shelf.proofs.numbers.RecordLaws.{roles-tabled}
use Rattle.shelf.proofs.calls.CopyLaws.{places_within, copied_turn, copied_skip}
use Rattle.shelf.proofs.log.log_pre_read.Goals as goal
use Rattle.shelf.proofs.log.log_pre_read.Goals.{then-plan-i+in-Some, then-plan-i+in_default, else-plan-i}

pub loop-i-init : goal.loop-i-init
unfolding copied
loop-i-init c = refl

pub copy_block-requires-clause-from_in_bounds : goal.copy_block-requires-clause-from_in_bounds
copy_block-requires-clause-from_in_bounds c =
    let a = c.args in
    let i = c.loop-i.i in
    subst (λ (k : ℕ). k * a.g.b + a.g.b ≤ length a.array.now) (sym ((roles-tabled a.g c.roles.result c.roles.ensures.number_value c.roles.ensures.d_value c.roles.ensures.parities_value a.x c.block_numbers-at.result c.block_numbers-at.ensures) i (omega (arith, c.loop-i-test.true))))
    (places_within a.g a.x (tested a.plan.now.pre) a.array.now c.requires.x_lt_s c.requires.array_len i c.loop-i-test.true c.if-plan-i.true)

pub loop-i-preserved : goal.loop-i-preserved
loop-i-preserved c =
    let a = c.args in
    let at = c.loop-i in
    let p = tested a.plan.now.pre in
    elim c.if-plan-i.branch [
      | then-plan-i+in-Some z ↦
          copied_turn at.i p (place_at a.g a.x) (ori_in a.plan.now) a.g.b a.array.now a.log.now at.log c.if-plan-i.log at.invariant z.if-plan-i.true
          (z.log-is ∙ z.copy_block.ensures
          ∙ ap₂ (λ (k n : ℕ). put a.g.b k (block a.g.b n a.array.now) at.log) (sym (ap (λ (o : Option ℕ). unwrap_or o 0) z.in-Some.is))
          ((roles-tabled a.g c.roles.result c.roles.ensures.number_value c.roles.ensures.d_value c.roles.ensures.parities_value a.x c.block_numbers-at.result c.block_numbers-at.ensures) at.i (omega (arith, c.loop-i-test.true))))
      | then-plan-i+in_default z ↦
          clash (c.requires.records at.i c.loop-i-test.true z.if-plan-i.true).0 (none_is (records_in a.plan.now.entries at.i).ori z.in_default.is)
      | else-plan-i z ↦
          copied_skip at.i p (place_at a.g a.x) (ori_in a.plan.now) a.g.b a.array.now a.log.now at.log c.if-plan-i.log at.invariant z.if-plan-i.false z.log-is
    ]

pub returns : goal.returns
unfolding pre_logged
returns c =
    let a = c.args in
    let done : c.loop-i.i ≡ a.g.d = omega arith in
    c.loop-i.invariant ∙ ap (λ (n : ℕ). copied n (tested a.plan.now.pre) (place_at a.g a.x) (ori_in a.plan.now) a.g.b a.array.now a.log.now) done
