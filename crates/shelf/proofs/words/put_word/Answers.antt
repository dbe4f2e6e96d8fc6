-- `shelf::words::put_word` meets its contract.
-- Assumes nothing.
use mathlib.Core.Path.{◌≡◌, refl, ◌∙◌}
use Prim.Native.Nat.{◌+◌, ◌*◌, ◌-◌}
use native.Mathlib.Omega.{arith}
use Rattle.shelf.proofs.hashlist.WordLaws.{word_put}
use Rattle.shelf.proofs.words.put_word.Goals as goal

pub returns : goal.returns
returns c =
    let a = c.args in
    let four : 4 * a.i + 4 - 4 * a.i ≡ 4 = omega arith in
    rw (four, c.copy_from_slice.ensures.after ∙ c.to_le_bytes.ensures) (word_put a.list.now a.i (4 * a.i) a.v _ _ _ _ refl c.requires (omega arith))
