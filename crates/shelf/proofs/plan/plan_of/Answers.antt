-- `shelf::plan::plan_of` meets its contract.
-- Assumes nothing.
use mathlib.Core.Path.{sym, ◌∙◌}
use native.Mathlib.Omega.{arith}
use Rattle.shelf.specs.Words.{words}
use Rattle.shelf.specs.below.Writing.{brings}
use Rattle.shelf.proofs.hashlist.FoundLaws.{listed_room}
use Rattle.shelf.proofs.calls.PlanLaws.{room-is, planned}
use Rattle.shelf.proofs.plan.plan_of.Goals as goal

pub has_room-requires-clause-listed_bound : goal.has_room-requires-clause-listed_bound
has_room-requires-clause-listed_bound c =
    let R = c.requires.list_ready in
    let g = c.args.shelf.geometry in
    let few = listed_room (words c.args.list.now) g c.args.shelf.next c.args.shelf.listed R.range.h_least (omega (arith, R.range.d_least)) R.range.e_most R.valid in
    omega (arith, few, R.range.e_most)

pub returns-then-not-has_room : goal.returns-then-not-has_room
returns-then-not-has_room c =
    let a = c.args in
    let choice = c.pre_reads-choice in
    sym (room-is a.shelf a.list.now a.share.now.x (brings a.share.now) c.entries_of-entries.result c.entries_of-entries.ensures choice.result.count c.note-next.result
    choice.result.places choice.ensures.count_value c.note-next.ensures.next choice.ensures.places_value)
    ∙ sym c.has_room.ensures ∙ c.if-not-has_room.true

pub returns : goal.returns
returns c =
    let a = c.args in
    let choice = c.pre_reads-choice in
    planned a.shelf a.list.now a.share.now.x (brings a.share.now) c.entries_of-entries.result c.entries_of-entries.ensures choice.result.count c.note-next.result
    choice.result.places choice.ensures.count_value c.note-next.ensures.next choice.ensures.places_value choice.result.pre c.note-next.new.entries
    choice.ensures.tests c.note-next.ensures.noted
    (sym (room-is a.shelf a.list.now a.share.now.x (brings a.share.now) c.entries_of-entries.result c.entries_of-entries.ensures choice.result.count c.note-next.result
    choice.result.places choice.ensures.count_value c.note-next.ensures.next choice.ensures.places_value)
    ∙ sym c.has_room.ensures ∙ c.if-not-has_room.false)
