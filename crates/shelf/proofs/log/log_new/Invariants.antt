-- `shelf::log::log_new` meets its contract. The loop's invariant: the new blocks of the indices passed are copied.
-- Assumes nothing.
use mathlib.Core.Path.{◌≡◌}
use Rattle.shelf.specs.below.Writing.{copied, brings, from_in, cur_in}
use Rattle.shelf.proofs.log.log_new.Given as goal

abbrev pub invariant-loop-i : goal.invariant-loop-i
invariant-loop-i l = l.log ≡ copied l.i (brings l.share) (from_in l.share) (cur_in l.plan) l.g.b l.share.source.now l.initial.log
