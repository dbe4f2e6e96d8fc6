-- `shelf::entries::relist` meets its contract.
-- Assumes nothing.
use mathlib.Core.List.{List}
use mathlib.Core.Path.{sym, subst}
use Prim.Native.Nat.{ℕ}
use native.Mathlib.Omega.{arith}
use Rattle.shelf.specs.Lent.{word_of}
use Rattle.shelf.specs.Words.{words}
use Rattle.shelf.specs.HashList.{Entry, entries}
use Rattle.shelf.specs.below.Entries.{records_in, listed_in}
use Rattle.shelf.specs.below.Rewriting.{Rewritten, Replaces, drop_stripe, merged}
use Rattle.shelf.proofs.calls.RelistLaws.{segment, long_row}
use Rattle.shelf.proofs.entries.relist.Goals as goal

pub replace_stripe-requires-clause-replaces : goal.replace_stripe-requires-clause-replaces
replace_stripe-requires-clause-replaces c =
    let a = c.args in
    let o = λ (j : ℕ). word_of (records_in a.entries.now j).ori in
    let u = λ (j : ℕ). word_of (records_in a.entries.now j).cur in
    subst (λ (ys : List Entry). Replaces a.g a.x (words a.list.now) ys) (sym c.pack_entries-c.ensures.packed)
    (record {
      there = c.requires.stripe;
      room = omega (arith, c.requires.room, long_row a.g.d a.x (listed_in a.entries.now) o u);
      segment = segment a.g.d a.x (listed_in a.entries.now) o u;
    })

pub returns : goal.returns
returns c =
    let a = c.args in
    subst (λ (ys : List Entry). Rewritten a.g (merged ys (drop_stripe a.g.d a.x (entries (words a.list.now) a.g))) c.replace_stripe.new.list c.replace_stripe.result)
    c.pack_entries-c.ensures.packed c.replace_stripe.ensures
