-- `shelf::links::relabel` meets its contract. The loop's invariant: the first k links are relabelled.
-- Assumes nothing.
use Prim.Native.Nat.{◌<◌}
use Rattle.shelf.specs.Words.{words}
use Rattle.shelf.specs.below.Rewriting.{Relabelled}
use Rattle.shelf.proofs.links.relabel.Given as goal

abbrev pub invariant-loop-k : goal.invariant-loop-k
invariant-loop-k g l = Relabelled (λ y r. (y < 4294967296) × goal.F-post g l.f y r) l.first l.step l.k (words l.initial.list) (words l.list)
