-- `shelf::entries::entries_from` meets its contract.
-- Assumes nothing.
use mathlib.Core.Path.{◌≡◌, sym, ◌∙◌, subst}
use Prim.Native.Nat.{ℕ, ◌+◌, ◌*◌, ◌<◌}
use native.Mathlib.Omega.{arith}
use native.Mathlib.Nat.{add-zero}
use lib.ListN.{length, length-set, get_or-append}
use lib.Seq.{length-take-le}
use Rattle.shelf.specs.Members.{address_of}
use Rattle.shelf.specs.Words.{words}
use Rattle.shelf.specs.below.Entries.{no_records, records_of}
use Rattle.shelf.specs.below.Lists.{FirstFrom}
use Rattle.shelf.proofs.calls.PlanLaws.{table_turn}
use Rattle.shelf.proofs.entries.entries_from.Goals as goal

pub loop-i-init : goal.loop-i-init
loop-i-init c =
    let m = c.requires.measures in
    record {
      long = length-take-le c.args.g.d _ (omega (arith, m.d1));
      first = subst (λ (k : ℕ). FirstFrom (words c.args.list.now) c.args.g.h c.args.n k c.args.p) (sym (add-zero (c.args.x * c.args.g.d))) c.requires.first_from;
      read = λ j o. absurd (omega arith);
    }

pub loop-i-preserved : goal.loop-i-preserved
loop-i-preserved c =
    let a = c.args in
    let at = c.loop-i in
    let r = c.said_from in
    let low : at.i < length at.entry-items = omega (arith, at.auto.entry-items, c.loop-i-test.true) in
    let next : a.x * a.g.d + at.i + 1 ≡ a.x * a.g.d + (at.i + 1) = omega arith in
    record {
      long = length-set at.entry-items at.i r.result.0 ∙ at.invariant.long;
      first = subst (λ (k : ℕ). FirstFrom (words a.list.now) a.g.h a.n k r.result.1) next r.ensures.behind;
      read = table_turn (λ j. records_of (words a.list.now) a.g (address_of a.g a.x j)) no_records at.i at.entry-items r.result.0 low r.ensures.said at.invariant.read;
    }

pub returns : goal.returns
returns c =
    let at = c.loop-i in
    λ i o. get_or-append at.entry-items _ no_records i (omega (arith, at.invariant.long))
    ∙ at.invariant.read i (omega (arith, at.invariant.long, at.auto.entry-items, c.loop-i-test.false))
