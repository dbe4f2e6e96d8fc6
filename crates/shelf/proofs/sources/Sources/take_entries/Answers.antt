-- `shelf::sources::Sources::take_entries` meets its contract.
-- Assumes nothing.
use Rattle.std.specs.Prelude.{None}
use mathlib.Core.Bool.{Bool, false}
use mathlib.Core.Path.{◌≡◌, ap, ◌∙◌}
use Prim.Native.Nat.{ℕ, ◌+◌, ◌*◌}
use native.Mathlib.Omega.{arith}
use lib.ListN.{length-set}
use Rattle.std.proofs.Common.{le_refl}
use Rattle.shelf.specs.Calls.{or_else}
use Rattle.shelf.specs.below.Entries.{records_in, is_missing}
use Rattle.shelf.proofs.numbers.InputLaws.{array_small}
use Rattle.shelf.proofs.calls.SourceLaws.{mapped_turn, newest_in, number_in, lacking_in, sources_end}
use Rattle.shelf.proofs.sources.Sources.take_entries.Goals as goal

pub overflow_mul-log : goal.overflow_mul-log
overflow_mul-log c =
    rw c.array_members.ensures (omega (arith, (array_small c.args.shelf.geometry c.requires.list_ready.range).0))

pub loop-i-preserved : goal.loop-i-preserved
loop-i-preserved c =
    let a = c.args in
    let at = c.loop-i in
    let I = at.invariant in
    let es = c.entries_of-entries.result in
    let log : ℕ = c.array_members.result * a.shelf.geometry.s in
    let most = c.requires.list_ready.range.d_most in
    record {
      long_latest = length-set at.self.latest at.i _ ∙ I.long_latest;
      long_originals = length-set at.self.originals at.i _ ∙ I.long_originals;
      long_missing = length-set at.self.missing at.i _ ∙ I.long_missing;
      latest = mapped_turn at.i (newest_in es) None _ at.self.latest c.latest.result (omega (arith, I.long_latest, most)) c.latest.ensures I.latest;
      originals = mapped_turn at.i (number_in log es a.self.now.originals) 0 _ at.self.originals c.original.result (omega (arith, I.long_originals, most))
          (c.original.ensures ∙ ap (or_else (records_in es at.i).ori (λ r. log + r)) (I.originals.above at.i (le_refl at.i))) I.originals;
      missing = mapped_turn at.i (lacking_in es a.self.now.missing) false _ at.self.missing c.is_missing.result (omega (arith, I.long_missing, most))
          (c.is_missing.ensures ∙ ap (is_missing (records_in es at.i)) (I.missing.above at.i (le_refl at.i))) I.missing;
    }

pub returns : goal.returns
returns c =
    let a = c.args in
    let at = c.loop-i in
    let row = c.entries_of-entries in
    let done : at.i ≡ a.shelf.geometry.d = omega arith in
    sources_end a.shelf a.list.now a.x row.result _ at.i a.self.now.originals at.self.originals _ at.self.latest a.self.now.missing at.self.missing done
    (ap (λ (m : ℕ). m * a.shelf.geometry.s) c.array_members.ensures) row.ensures c.requires.tabled c.requires.tests
    at.invariant.latest at.invariant.originals at.invariant.missing
