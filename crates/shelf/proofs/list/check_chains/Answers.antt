-- `shelf::list::check_chains` meets its contract. The loops' invariants: what is left of the walk, from here, is the whole walk, unless
-- more than n places were met, and then the whole walk is a fault.
-- Assumes nothing.
use mathlib.Core.Bool.{not}
use mathlib.Core.List.{List}
use mathlib.Core.Path.{sym, ap, ◌∙◌}
use Prim.Native.Nat.{ℕ, ◌≤◌, ◌<◌}
use native.Mathlib.Omega.{arith}
use lib.Dec.{eqb}
use Rattle.shelf.specs.Words.{words}
use Rattle.shelf.specs.HashList.{next_at}
use Rattle.shelf.proofs.general.TestLaws.{not_so}
use Rattle.shelf.proofs.hashlist.NumberThree.{turn_slot, turn_place, turn_end, stop_out, stop_bad, walked_all}
use Rattle.shelf.proofs.hashlist.PlaceLaws.{links_rise}
use Rattle.shelf.proofs.list.check_chains.Goals as goal
use Rattle.shelf.proofs.list.check_chains.Goals.{else-all-test, then-all-test+then-loop-p-test+then-not-links_up, then-all-test+else-loop-p-test+then-p}

pub loop-p-init : goal.loop-p-init
loop-p-init c =
    let a = c.args in
    let at = c.all in
    let few : a.n ≤ 4096 = omega (arith, c.requires.measures.e1, c.requires.n_le_e) in
    (at.invariant.0, (omega (arith, at.invariant.1.0), turn_slot (words a.list.now) a.g.h a.n at.i at.m c.word-p.result (omega arith) c.word-p.ensures at.invariant.1.1))

pub loop-p-smaller : goal.loop-p-smaller
loop-p-smaller c =
    let a = c.args in
    let at = c.loop-p in
    let up : at.p < next_at (words a.list.now) a.g.h at.p =
    links_rise (words a.list.now) a.g.h c.all.i at.p (sym c.links_up.ensures ∙ c.if-not-links_up.false) in
    omega (arith, up, c.next-p.ensures)

pub loop-p-preserved : goal.loop-p-preserved
loop-p-preserved c =
    let a = c.args in
    let w : List ℕ = words a.list.now in
    let at = c.loop-p in
    let few : a.n ≤ 4096 = omega (arith, c.requires.measures.e1, c.requires.n_le_e) in
    let good = sym c.links_up.ensures ∙ c.if-not-links_up.false in
    let up : at.p < next_at w a.g.h at.p = links_rise w a.g.h c.all.i at.p good in (
      at.invariant.0,
      (
        omega (arith, up, c.next-p.ensures, at.invariant.1.0),
        turn_place w a.g.h a.n c.all.i at.m at.p c.next-p.result few c.loop-p-test.true good c.next-p.ensures at.invariant.1.1,
      ),
    )

pub all-preserved : goal.all-preserved
all-preserved c =
    let a = c.args in
    let at = c.loop-p in
    (at.invariant.0, (omega (arith, at.invariant.1.0, c.loop-p-test.false), turn_end (words a.list.now) a.g.h a.n c.all.i at.m at.p c.if-p.false at.invariant.1.1))

pub returns-then-not-fault : goal.returns-then-not-fault
returns-then-not-fault c =
    let a = c.args in
    let w : List ℕ = words a.list.now in
    elim c.all-test.branch [
      | else-all-test x ↦
          sym (walked_all w a.g.h a.n c.all.i c.all.m (omega (arith, x.all-test.false)) c.all.invariant.1.1 ∙ ap (λ (k : ℕ). eqb k a.n) (sym x.m-is))
      | then-all-test+then-loop-p-test+then-not-links_up x ↦ absurd (not_so (sym x.fault-is ∙ c.if-not-fault.true))
      | then-all-test+else-loop-p-test+then-p x ↦ absurd (not_so (sym x.fault-is ∙ c.if-not-fault.true))
    ]

pub returns-else-not-fault : goal.returns-else-not-fault
returns-else-not-fault c =
    let a = c.args in
    let w : List ℕ = words a.list.now in
    let few : a.n ≤ 4096 = omega (arith, c.requires.measures.e1, c.requires.n_le_e) in
    ap not c.if-not-fault.false
    ∙ elim c.all-test.branch [
      | else-all-test x ↦ absurd (not_so (sym c.if-not-fault.false ∙ x.fault-is ∙ c.all.invariant.0))
      | then-all-test+then-loop-p-test+then-not-links_up x ↦
          sym (stop_bad w a.g.h a.n c.all.i x.loop-p.m x.loop-p.p x.links_up.result few x.loop-p-test.true x.links_up.ensures
          x.if-not-links_up.true x.loop-p.invariant.1.1)
      | then-all-test+else-loop-p-test+then-p x ↦
          sym (stop_out w a.g.h a.n c.all.i x.loop-p.m x.loop-p.p x.if-p.true x.loop-p-test.false x.loop-p.invariant.1.1)
    ]
