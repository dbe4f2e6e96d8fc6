-- `shelf::status::check` meets its contract: the rows of the call are tried where rows 1 to 3 pass.
-- Assumes nothing.
use Prim.Native.Nat.{ℕ}
use native.Mathlib.Omega.{arith}
use lib.ListN.{length-replicate}
use Rattle.shelf.specs.Lent.{number_of, tries_list}
use Rattle.shelf.specs.Status.{code_of}
use Rattle.shelf.specs.below.Reading.{ListReady}
use Rattle.shelf.proofs.hashlist.ListMarks.{marks_listed}
use Rattle.shelf.proofs.numbers.CheckRules.{check_rules}
use Rattle.shelf.proofs.status.check.Goals as goal

pub returns-in-Write : goal.returns-in-Write
unfolding number_of tries_list code_of
returns-in-Write c = grind (arith, check_rules, length-replicate {A = ℕ} c.in-Write.len 0)

-- the record counts the listed blocks
pub returns-in-NewLog : goal.returns-in-NewLog
unfolding number_of tries_list code_of
returns-in-NewLog c =
    let r = c.args.shelf in
    let ready : ListReady r c.args.list.now = grind (arith, check_rules) in
    grind (arith, check_rules, marks_listed r.geometry c.args.list.now r.next r.listed ready.range ready.valid)
