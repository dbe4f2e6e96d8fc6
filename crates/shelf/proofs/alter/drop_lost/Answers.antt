-- `shelf::alter::drop_lost` meets its contract.
-- Assumes nothing.
use mathlib.Core.List.{List}
use mathlib.Core.Path.{◌≡◌}
use Prim.Native.Nat.{ℕ, ◌+◌, ◌*◌}
use native.Mathlib.Omega.{arith}
use lib.ListN.{length}
use Rattle.shelf.specs.below.Rebuilding.{parity_failed_at}
use Rattle.shelf.specs.declared.record.Geometry.{Geometry}
use Rattle.shelf.specs.Words.{words}
use Rattle.shelf.proofs.hashlist.OrderLaws.{lists-room}
use Rattle.shelf.proofs.hashlist.AlterLaws.{none-closed, closed-rewritten}
use borrow.Author.Rules.{rules}
use Rattle.shelf.proofs.alter.drop_lost.Goals as goal

pub close_up_lost-m-requires-clause-n_le_e : goal.close_up_lost-m-requires-clause-n_le_e
close_up_lost-m-requires-clause-n_le_e c = lists-room c.args.list.now c.args.shelf.geometry c.args.shelf.listed c.requires.measures c.requires.lists

pub relink-requires-clause-m_le_e : goal.relink-requires-clause-m_le_e
relink-requires-clause-m_le_e c =
    omega (arith, c.close_up_lost-m.ensures.few, lists-room c.args.list.now c.args.shelf.geometry c.args.shelf.listed c.requires.measures c.requires.lists)

pub relink-requires-clause-n_le_e : goal.relink-requires-clause-n_le_e
relink-requires-clause-n_le_e c = lists-room c.args.list.now c.args.shelf.geometry c.args.shelf.listed c.requires.measures c.requires.lists

pub relink-requires-clause-none_behind : goal.relink-requires-clause-none_behind
relink-requires-clause-none_behind c =
    let m = c.requires.measures in
    let v = c.requires.lists in
    let r = c.close_up_lost-m in
    none-closed (words c.args.list.now) c.args.shelf.geometry v.next c.args.shelf.listed m.h0 m.d0 m.e1 v.passing r.result (words r.new.list) r.ensures.kept_from

pub returns : goal.returns
returns c =
    let a = c.args in
    let g : Geometry = a.shelf.geometry in
    let m = c.requires.measures in
    let v = c.requires.lists in
    let r = c.close_up_lost-m in
    let l : List ℕ = c.relink.new.list in
    let len : length l ≡ 4 * (g.h + 4 * g.e) = search rules in
    closed-rewritten (words a.list.now) g v.next a.shelf.listed m.h0 m.d0 m.e1 v.passing (parity_failed_at a.shelf) r.result (words r.new.list) l
    r.ensures.few r.ensures.others c.relink.ensures len (λ i. omega (arith, c.slice_known-3-1.given i))
