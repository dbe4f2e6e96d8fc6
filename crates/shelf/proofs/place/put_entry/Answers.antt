-- `shelf::place::put_entry` meets its contract.
-- Assumes nothing.
use mathlib.Core.Path.{◌∙◌}
use Rattle.shelf.proofs.place.put_entry.Goals as goal

pub returns : goal.returns
returns c = c.put_word-3.ensures ∙ rw (c.put_word-2.ensures, c.put_word.ensures)
