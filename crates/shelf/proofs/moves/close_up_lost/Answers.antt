-- `shelf::moves::close_up_lost` meets its contract. The loop's invariant: the entries kept, then those of the places from p on, are the
-- whole.
-- Assumes nothing.
use mathlib.Core.Bool.{Bool}
use mathlib.Core.List.{List}
use mathlib.Core.Path.{◌≡◌, sym, ap, ◌∙◌}
use Prim.Native.Nat.{ℕ, ◌+◌, ◌*◌}
use native.Mathlib.Omega.{arith}
use lib.ListN.{set}
use Rattle.shelf.specs.Words.{words}
use Rattle.shelf.specs.HashList.{Entry, address_at}
use Rattle.shelf.specs.below.Rewriting.{placed}
use Rattle.shelf.proofs.hashlist.WordLaws.{length-words}
use Rattle.shelf.proofs.hashlist.TableLaws.{placed-put, placed-kept}
use Rattle.shelf.specs.below.Rebuilding.{parity_failed_at}
use Rattle.shelf.specs.declared.record.Geometry.{Geometry}
use Rattle.shelf.proofs.hashlist.EntryLaws.{closing_keep, closing-skip, closing_end}
use Rattle.shelf.proofs.moves.close_up_lost.Goals as goal
use Rattle.shelf.proofs.moves.close_up_lost.Goals.{then-not-parity_failed, else-not-parity_failed}

pub loop-p-preserved : goal.loop-p-preserved
loop-p-preserved c =
    let a = c.args in
    let g : Geometry = a.shelf.geometry in
    let e : ℕ = g.e in
    let t : ℕ → Bool = parity_failed_at a.shelf in
    let at = c.loop-p in
    let x = c.entry_in-x in
    let is : x.result.address ≡ address_at (words at.list) g.h at.p = ap (λ (y : Entry). y.address) x.ensures in
    let f = c.parity_failed in
    elim c.if-not-parity_failed.branch [
      | then-not-parity_failed z ↦
          (let v : List ℕ = words z.put_entry.new.list in
          let w : List ℕ = words at.list in
          let moved = placed-put w v g.h at.m x.result e (omega (arith, at.invariant.1.0, c.requires.n_le_e))
          (length-words at.list (g.h + 4 * e) (at.auto.list ∙ c.requires.measures.len)) z.put_entry.ensures
          ∙ ap (λ (y : Entry). set (placed e w g.h 0) at.m y) x.ensures in
          closing_keep g.d g.h e a.n t a.list.now at.list z.put_entry.new.list _ at.m _ at.p x.result.address (omega arith) c.requires.n_le_e
          at.invariant is (sym f.ensures ∙ z.if-not-parity_failed.true) (z.put_entry.auto.list ∙ at.auto.list) moved
          (placed-kept w v g.h at.m x.result z.put_entry.ensures) z.list-is z.m-is)
      | else-not-parity_failed z ↦
          closing-skip g.d g.h e a.n t a.list.now at.list _ at.m _ at.p x.result.address (omega arith) c.requires.n_le_e
          at.invariant is (sym f.ensures ∙ z.if-not-parity_failed.false) z.list-is z.m-is
    ]

pub returns-clause-few : goal.returns-clause-few
returns-clause-few c =
    let at-loop = c in
    let a = at-loop.args in
    let g : Geometry = a.shelf.geometry in
    let whole = closing_end g.d g.h g.e a.n (parity_failed_at a.shelf) a.list.now at-loop.loop-p.list at-loop.loop-p.m at-loop.loop-p.p (omega arith) at-loop.loop-p.invariant in
    whole.0

pub returns-clause-others : goal.returns-clause-others
returns-clause-others c =
    let at-loop = c in
    let a = at-loop.args in
    let g : Geometry = a.shelf.geometry in
    let whole = closing_end g.d g.h g.e a.n (parity_failed_at a.shelf) a.list.now at-loop.loop-p.list at-loop.loop-p.m at-loop.loop-p.p (omega arith) at-loop.loop-p.invariant in
    whole.1.0

pub returns-clause-kept_from : goal.returns-clause-kept_from
returns-clause-kept_from c =
    let at-loop = c in
    let a = at-loop.args in
    let g : Geometry = a.shelf.geometry in
    let whole = closing_end g.d g.h g.e a.n (parity_failed_at a.shelf) a.list.now at-loop.loop-p.list at-loop.loop-p.m at-loop.loop-p.p (omega arith) at-loop.loop-p.invariant in
    whole.1.1
