-- `shelf::place::put` meets its contract.
-- Assumes nothing.
use Prim.Native.Nat.{◌+◌, ◌*◌}
use native.Mathlib.Omega.{arith}
use Rattle.shelf.specs.Words.{words}
use Rattle.shelf.proofs.hashlist.WordLaws.{words_long}
use Rattle.shelf.proofs.hashlist.LinkLaws.{put-made}
use Rattle.shelf.proofs.place.put.Goals as goal

pub returns : goal.returns
returns c =
    let a = c.args in
    put-made a.h a.p a.x a.y (words a.list.now)
    (let k = words_long a.list.now (a.h + 4 * a.p + 3) (omega (arith, c.requires.1.1)) in omega arith)
    c.put_entry.ensures c.put_next.ensures
