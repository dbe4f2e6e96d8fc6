-- `shelf::alter::move_stripe` meets its contract.
-- Assumes nothing.
use mathlib.Core.Path.{◌≡◌}
use Prim.Native.Nat.{◌+◌, ◌*◌}
use native.Mathlib.Omega.{arith}
use lib.ListN.{length}
use Rattle.shelf.proofs.hashlist.LinkLaws.{left_lists, left_clean, left_replaces, left_rewritten}
use borrow.Author.Rules.{rules}
use Rattle.shelf.proofs.alter.move_stripe.Goals as goal

pub put_in-requires-clause-lists : goal.put_in-requires-clause-lists
put_in-requires-clause-lists c = left_lists c.requires.measures c.requires.lists c.requires.replaces c.drop_stripe-m.ensures

pub put_in-requires-clause-replaces : goal.put_in-requires-clause-replaces
put_in-requires-clause-replaces c = left_replaces c.requires.measures c.requires.lists c.requires.replaces c.drop_stripe-m.ensures

pub put_in-requires-clause-none_there : goal.put_in-requires-clause-none_there
put_in-requires-clause-none_there c = left_clean c.requires.measures c.requires.lists c.requires.replaces c.drop_stripe-m.ensures

pub returns : goal.returns
returns c =
    let u = c.put_in in
    let len : length u.new.list ≡ 4 * (c.args.g.h + 4 * c.args.g.e) = search rules in
    left_rewritten c.requires.measures c.requires.lists c.requires.replaces c.drop_stripe-m.ensures u.new.list u.ensures len
    (λ i. omega (arith, c.slice_known-3-1.given i))
