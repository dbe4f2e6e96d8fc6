-- `shelf::shelf_full_resync` meets its contract.
-- Assumes nothing.
use mathlib.Core.Path.{◌∙◌, ◌≡◌, sym, ap, ap₂, refl}
use Prim.Native.Nat.{ℕ, ◌+◌, ◌*◌}
use native.Mathlib.Omega.{arith}
use lib.ListN.{length}
use Rattle.shelf.specs.below.Records.{with_listed}
use Rattle.shelf.specs.declared.record.Shelf.{Shelf}
use Rattle.shelf.proofs.lent.AnswerLaws.{accepted_answer}
use Rattle.shelf.proofs.numbers.RecordLaws.{roles-made_all}
use Rattle.shelf.proofs.calls.ResyncLaws.{full_pass, full_made}
use borrow.Author.Rules.{rules}
use Rattle.shelf.proofs.shelf_full_resync.Goals as goal

pub roles-requires : goal.roles-requires
roles-requires c =
    let a = c.args in
    let range = (full_pass a.shelf (length a.array.now) (length a.log.now) a.list.now c.in_default.ensures).0 in
    (range.d_most, (range.parities_least, range.parities_most))

pub make_all_parity-requires : goal.make_all_parity-requires
make_all_parity-requires c =
    let a = c.args in
    let g = a.shelf.geometry in
    let roles = c.roles.ensures in
    let passed = full_pass a.shelf (length a.array.now) (length a.log.now) a.list.now c.in_default.ensures in
    record {
      le_d = omega (arith, passed.0.d_least, roles.d_value);
      stripes_bound = passed.0.s_most;
      le_b = passed.0.b_least;
      b_bound = passed.0.b_most;
      array_len = passed.1.0 ∙ sym (ap₂ (λ (d k : ℕ). (d + k) * g.s * g.b) roles.d_value roles.parities_value);
    }

pub returns : goal.returns
returns c =
    let a = c.args in
    let long : length a.shelf.failed ≡ 19 = search rules in
    let roles = c.roles.ensures in
    accepted_answer c.accepted.ensures refl
    (full_made a.shelf a.array.now a.log.now a.list.now long c.in_default.ensures c.drop_to.result c.make_all_parity.new.array c.fill.new.self
    (c.drop_to.ensures ∙ ap (λ (r : Shelf). with_listed r 0) c.in_mode.ensures)
    (roles-made_all a.shelf.geometry c.roles.result roles.number_value roles.d_value roles.parities_value _ _ c.make_all_parity.ensures) (c.fill.ensures.after (λ y e. e)))
