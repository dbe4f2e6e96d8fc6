-- `shelf::moves::take_out` meets its contract.
-- Assumes nothing.
use mathlib.Core.Path.{◌≡◌, ◌∙◌}
use Prim.Native.Nat.{◌+◌, ◌*◌}
use native.Mathlib.Omega.{arith}
use lib.ListN.{length}
use Rattle.shelf.specs.declared.record.Geometry.{Geometry}
use Rattle.shelf.specs.Words.{words}
use Rattle.shelf.proofs.hashlist.OrderLaws.{lists-room}
use Rattle.shelf.proofs.hashlist.WordLaws.{length-words}
use Rattle.shelf.proofs.hashlist.LinkLaws.{upward, taken_out}
use Rattle.shelf.proofs.moves.take_out.Goals as goal

pub lower_front-requires-clause-gap : goal.lower_front-requires-clause-gap
lower_front-requires-clause-gap c =
    let a = c.args in
    let m = c.requires.measures in
    let room = lists-room a.list.now a.g a.n m c.requires.lists in
    (c.requires.p_le_q, (omega (arith, room, m.e1, c.requires.q_le_n), (m.h1, omega (arith, room, m.len, c.requires.q_le_n))))

pub lower_front-requires-clause-upward : goal.lower_front-requires-clause-upward
lower_front-requires-clause-upward c =
    let a = c.args in
    let m = c.requires.measures in
    let v = c.requires.lists in
    record { up = λ q o l. upward (words a.list.now) a.g v.next a.n m.h0 m.d0 m.e1 v.passing q (omega (arith, c.requires.q_le_n)) }

pub move_down-requires-clause-gap : goal.move_down-requires-clause-gap
move_down-requires-clause-gap c =
    let a = c.args in
    let m = c.requires.measures in
    let room = lists-room a.list.now a.g a.n m c.requires.lists in
    (c.requires.q_le_n, (omega (arith, room, m.e1), (m.h1, omega (arith, room, m.len, c.lower_front.auto.list))))

pub overflow_sub-q : goal.overflow_sub-q
overflow_sub-q c = omega (arith, c.requires.p_le_q)

pub overflow_sub-n : goal.overflow_sub-n
overflow_sub-n c = omega (arith, c.requires.q_le_n)

pub overflow_mul-n : goal.overflow_mul-n
overflow_mul-n c = omega (arith, lists-room c.args.list.now c.args.g c.args.n c.requires.measures c.requires.lists, c.requires.measures.e1)

pub overflow_add-h : goal.overflow_add-h
overflow_add-h c = omega (arith, lists-room c.args.list.now c.args.g c.args.n c.requires.measures c.requires.lists, c.requires.measures.e1, c.requires.measures.h1)

pub overflow_mul-n-2 : goal.overflow_mul-n-2
overflow_mul-n-2 c = omega (arith, lists-room c.args.list.now c.args.g c.args.n c.requires.measures c.requires.lists, c.requires.measures.e1)

pub overflow_add-h-2 : goal.overflow_add-h-2
overflow_add-h-2 c = omega (arith, lists-room c.args.list.now c.args.g c.args.n c.requires.measures c.requires.lists, c.requires.measures.e1, c.requires.measures.h1)

pub fill_from-requires : goal.fill_from-requires
fill_from-requires c =
    let m = c.requires.measures in
    let room = lists-room c.args.list.now c.args.g c.args.n m c.requires.lists in
    record { k_bound = omega (arith, room, m.e1, m.h1); k_in_bounds = omega (arith, room, m.len, c.lower_front.auto.list, c.move_down.auto.list) }

pub returns : goal.returns
returns c =
    let a = c.args in
    let g : Geometry = a.g in
    let m = c.requires.measures in
    let v = c.requires.lists in
    let r = c.fill_from in
    let len : length r.new.list ≡ 4 * (g.h + 4 * g.e) = r.auto.list ∙ c.move_down.auto.list ∙ c.lower_front.auto.list ∙ m.len in
    taken_out (words a.list.now) g v.next a.n m.h0 m.d0 m.e1 v.passing a.p a.q c.requires.p_le_q c.requires.q_le_n (words c.lower_front.new.list)
    (words c.move_down.new.list) (words r.new.list) (length-words r.new.list (g.h + 4 * g.e) len) c.lower_front.ensures c.move_down.ensures r.ensures
