-- `shelf::words::fill_from` meets its contract.
-- Assumes nothing.
use mathlib.Core.List.{List}
use mathlib.Core.Path.{◌≡◌}
use Prim.Native.Nat.{ℕ, ◌*◌, ◌-◌, ◌≤◌}
use native.Mathlib.Omega.{arith}
use lib.ListN.{length, take, drop}
use Rattle.std.proofs.lemmas.List.Edits.{length-between}
use Rattle.shelf.specs.Words.{words}
use Rattle.shelf.proofs.hashlist.WordLaws.{words_filled, words_hold}
use Rattle.shelf.proofs.hashlist.FillLaws.{blank-none, blank_filled}
use Rattle.shelf.proofs.words.fill_from.Goals as goal

pub returns-then-i-k : goal.returns-then-i-k
returns-then-i-k c =
    let a = c.args in
    let l : List ℕ = a.list.now in
    let i : 4 * a.i ≤ length l = omega arith in
    let n : length (take (4 * a.k - 4 * a.i) (drop (4 * a.i) l)) ≡ 4 * a.k - 4 * a.i = length-between l (4 * a.i) (4 * a.k) c.requires.k_in_bounds in
    rw (c.fill.ensures.after (λ y e. e), n, words_filled l a.i a.k (omega arith) c.requires.k_in_bounds) (blank_filled a.i a.k (words l) (omega arith) (words_hold l a.k c.requires.k_in_bounds))

pub returns-else-i-k : goal.returns-else-i-k
returns-else-i-k c = blank-none c.args.i c.args.k (words c.args.list.now) c.if-i-k.false
