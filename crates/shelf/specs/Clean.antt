-- A clean shelf beside its book: in mode 0, its list filled with none, its sound members with the blocks that the book holds and their parity. A
-- sequence of calls may begin there as at a fresh shelf, which is one of them; request P8 says of the others that they carry over.
-- Assumes nothing.
use Rattle.std.specs.Prelude.{Bool, true, false, List, ◌≡◌, ℕ, ◌<◌, length}
use Rattle.shelf.specs.Members.{parity_role, member_at, IsBlock, block_parity}
use Rattle.shelf.specs.Book.{Book, no_marks}
use Rattle.shelf.specs.Lent.{Lent, flag_at, array_block, bad_measures, bad_record, bad_lengths, none_list}
use Rattle.shelf.specs.Sequence.{Reported}
use Rattle.shelf.specs.declared.record.Geometry.{Geometry}

-- each parity that stripe x has in the array, where its member is sound, is that of the blocks that the book holds
pub record Parity (g : Geometry) (h : Lent) (b : Book) (x : ℕ) : Type 0 where
  pub each : (p : ℕ) → p < g.parities → flag_at h.shelf (member_at g x (parity_role g p)) ≡ false
      → array_block g h.array x (parity_role g p) ≡ block_parity g p (b.held x)

-- "Shelves in mode 0 carry over after their list is filled with none." As many members may have failed as number 1 allows; their bytes may be
-- anything, and so may those of a sound log. Of a block on a failed member the book holds what the sound parity was made of.
pub record Clean (g : Geometry) (h : Lent) (b : Book) : Type 0 where
  -- a shelf of these measures, with its nineteen flags, to which numbers 1 and 2 do not apply
  pub geometry : h.shelf.geometry ≡ g
  pub flags : length h.shelf.failed ≡ 19
  pub measures : bad_measures g ≡ false
  pub fine : bad_record h.shelf ≡ false
  pub lengths : bad_lengths g (length h.array) (length h.log) (length h.list) ≡ false
  -- in mode 0, for which number 1 sees to it that nothing is listed and no log record is in use; its list is filled with none
  pub mode : h.shelf.mode ≡ 0
  pub list : h.list ≡ none_list g
  -- the book knows the failed members, and has no marks
  pub failed : b.failed ≡ flag_at h.shelf
  pub marks : b.state ≡ no_marks
  -- sound members hold the blocks of the book, and their parity
  pub blocks : (x i : ℕ) → x < g.s → i < g.d → IsBlock g (b.held x i)
  pub sound : (x i : ℕ) → x < g.s → i < g.d → flag_at h.shelf (member_at g x i) ≡ false → array_block g h.array x i ≡ b.held x i
  pub parity : (x : ℕ) → x < g.s → Parity g h b x

-- What was reported of the members that have failed, by f, is what sound ones would hold: the blocks held, and the parity of the originals, the blocks
-- that parity was made of. On a clean shelf these are the blocks held.
pub record Recalled (g : Geometry) (f : ℕ → Bool) (held orig : ℕ → ℕ → List ℕ) (k : Reported) : Type 0 where
  pub blocks : (x i : ℕ) → x < g.s → i < g.d → f (member_at g x i) ≡ true → k (member_at g x i) x ≡ held x i
  pub parity : (x p : ℕ) → x < g.s → p < g.parities → f (member_at g x (parity_role g p)) ≡ true
      → k (member_at g x (parity_role g p)) x ≡ block_parity g p (orig x)
