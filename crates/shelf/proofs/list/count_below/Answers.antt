-- `shelf::list::count_below` meets its contract.
-- Assumes nothing.
use lib.Dec.{ltb}
use lib.ListN.{get_or}
use Rattle.std.proofs.lemmas.List.Sorted.{IsPartitionPoint-from_clause}
use Rattle.shelf.specs.Words.{words}
use borrow.Author.Rules.{rules}
use Rattle.shelf.proofs.list.count_below.Goals as goal

pub returns-clause-parted : goal.returns-clause-parted
returns-clause-parted c =
    let a = c.args in
    IsPartitionPoint-from_clause (λ x. ltb (get_or (words x) 0 0) a.a) a.places.now c.partition_point.result c.partition_point.ensures.partitioned c.requires
    (λ x r f k. search rules)
