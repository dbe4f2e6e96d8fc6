-- `shelf::log::log_pre_read` meets its contract. The loop's invariant: the pre-read blocks of the indices passed are copied.
-- Assumes nothing.
use mathlib.Core.Path.{◌≡◌}
use Rattle.shelf.specs.Members.{place_at}
use Rattle.shelf.specs.below.Tables.{tested}
use Rattle.shelf.specs.below.Writing.{copied, ori_in}
use Rattle.shelf.proofs.log.log_pre_read.Given as goal

abbrev pub invariant-loop-i : goal.invariant-loop-i
invariant-loop-i l = l.log ≡ copied l.i (tested l.plan.pre) (place_at l.g l.x) (ori_in l.plan) l.g.b l.array l.initial.log
