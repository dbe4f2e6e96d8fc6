-- `shelf::fetch::View::solve_in` meets its contract: the table has the originals.
-- Assumes nothing.
use mathlib.Core.Path.{◌≡◌, ◌∙◌, ap}
use Prim.Native.Nat.{◌+◌, ◌*◌}
use lib.ListN.{length, drop}
use native.Mathlib.Omega.{arith}
use borrow.Author.Rules.{rules}
use Rattle.stripe.proofs.Laws.{two_at_least, differ, length-gen, whole_blocks}
use Rattle.shelf.specs.Members.{array_members}
use Rattle.shelf.proofs.calls.GivenLaws.{held_all, worked_by}
use Rattle.shelf.proofs.calls.ViewLaws.{seen_ready, block_first}
use Rattle.shelf.proofs.fetch.View.solve_in.Goals as goal

pub invariant_of-originals-clause-array_bytes : goal.invariant_of-originals-clause-array_bytes
invariant_of-originals-clause-array_bytes c = λ i. omega (arith, c.type_inv.array i)

pub invariant_of-originals-clause-log_bytes : goal.invariant_of-originals-clause-log_bytes
invariant_of-originals-clause-log_bytes c = c.args.self.now.log_bytes

pub invariant_of-originals-clause-whole : goal.invariant_of-originals-clause-whole
invariant_of-originals-clause-whole c =
    let g = c.args.self.now.shelf.geometry in whole_blocks (array_members g * g.s) g.b (length c.args.array.now) c.requires.array_len

pub invariant_of-originals-clause-held : goal.invariant_of-originals-clause-held
invariant_of-originals-clause-held c =
    let a = c.args in
    let v = a.self.now in
    let long : length v.from.now.originals ≡ 18 = search rules in
    held_all v.shelf a.array.now v.log.now v.list.now (seen_ready v a.array.now c.requires.array_len) v.x v.x_lt_s v.from.now.originals (omega arith) v.sources_told.numbers
    (v.shelf.geometry.d + 1) (omega arith)

pub solve-requires-clause-held : goal.solve-requires-clause-held
solve-requires-clause-held c =
    let a = c.args in
    let v = a.self.now in
    let g = v.shelf.geometry in
    let long : length v.from.now.originals ≡ 18 = search rules in
    λ e.
    held_all v.shelf a.array.now v.log.now v.list.now (seen_ready v a.array.now c.requires.array_len) v.x v.x_lt_s v.from.now.originals (omega arith) v.sources_told.numbers (g.d + 2)
    (let two = two_at_least g.parities a.i a.y c.requires.recoverable (differ g.d a.i a.y e) in omega arith)

pub returns : goal.returns
returns c =
    let a = c.args in
    let v = a.self.now in
    block_first v.shelf.geometry.b c.solve.new.work (drop v.shelf.geometry.b a.work.now) (ap length c.solve.ensures ∙ length-gen v.shelf.geometry.b _)
    ∙ worked_by v.shelf a.array.now v.log.now v.list.now (seen_ready v a.array.now c.requires.array_len) v.x v.x_lt_s a.i a.y v.from.now.originals c.solve.new.work
    c.requires.i_lt_d c.requires.recoverable v.sources_told.numbers c.solve.ensures
