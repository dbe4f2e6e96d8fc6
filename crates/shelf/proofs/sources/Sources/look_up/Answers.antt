-- `shelf::sources::Sources::look_up` meets its contract.
-- Assumes nothing.
use native.Mathlib.Omega.{arith}
use Rattle.shelf.proofs.numbers.RecordLaws.{roles-tabled}
use Rattle.shelf.proofs.calls.SourceLaws.{none-sources}
use Rattle.shelf.proofs.sources.Sources.look_up.Goals as goal

pub returns-else-shelf-gt0 : goal.returns-else-shelf-gt0
returns-else-shelf-gt0 c =
    let a = c.args in
    let roles = c.roles.ensures in
    let numbers = c.block_numbers-self in
    let told = roles-tabled a.shelf.geometry c.roles.result roles.number_value roles.d_value roles.parities_value a.x numbers.result numbers.ensures in
    none-sources a.shelf a.list.now a.x numbers.result a.lost.now c.requires.list_ready c.requires.x_lt_s (omega (arith, c.if-shelf-gt0.false)) told c.requires.tests
