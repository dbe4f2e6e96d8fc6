-- `shelf::words::word` meets its contract.
-- Assumes nothing.
use mathlib.Core.Path.{◌∙◌, refl, sym}
use Prim.Native.Nat.{◌*◌}
use Rattle.shelf.proofs.hashlist.WordLaws.{word_read}
use Rattle.shelf.proofs.words.word.Goals as goal

pub returns : goal.returns
returns c = c.from_le_bytes.ensures ∙ sym (word_read c.args.list.now c.args.i (4 * c.args.i) refl c.requires)
