-- The blocks of a stripe as its view tells them: that of a sound member from the array, that of a failed one from the log or worked back.
-- Assumes nothing.
use mathlib.Core.Bool.{true, false}
use mathlib.Core.List.{List, ◌++◌}
use mathlib.Core.Path.{◌≡◌, sym, ap, ◌∙◌}
use Prim.Native.Nat.{ℕ, ◌+◌, ◌*◌, ◌≤◌, ◌<◌}
use Rattle.std.specs.Prelude.{None, Some}
use native.Mathlib.Omega.{arith}
use lib.ListN.{length, get_or, take, drop}
use native.Mathlib.Nat.{zero-mul}
use Rattle.std.proofs.Math.Seq.{take-append_seam}
use Rattle.stripe.specs.Blocks.{block}
use Rattle.shelf.specs.Lent.{array_block, array_length}
use Rattle.shelf.specs.below.Records.{failed_role}
use Rattle.shelf.specs.below.Reading.{Ready, lost_block, served_block}
use Rattle.shelf.specs.below.Viewing.{seen}
use Rattle.shelf.specs.declared.fetch.View.{View}
use Rattle.shelf.proofs.agreement.RowParity.{other_few}
use Rattle.shelf.proofs.calls.GivenLaws.{given_sound, given_log, given_lost, latest-low, worked}
use Rattle.shelf.proofs.calls.RefillLaws.{filled_start, filled_more, filled_sound, below_so_far}
use Rattle.shelf.proofs.calls.SourceLaws.{other_by}

pub seen_ready : (v : View) (a : List ℕ) → length a ≡ array_length v.shelf.geometry → Ready (seen v a)
seen_ready v a long = record { listing = v.list_ready; array = long; log = v.log_len }

module _ (v : View) (i : ℕ) (hi : i < v.shelf.geometry.d) where
  pub lost_role : failed_role v.shelf v.x i ≡ get_or v.lost i false
  lost_role = sym (v.lost_told i (omega arith))

  module _ (a : List ℕ) (long : length a ≡ array_length v.shelf.geometry) where
    -- the log record of the latest value lies within the log
    pub record_room : (r : ℕ) → get_or v.from.now.latest i None ≡ Some r → r * v.shelf.geometry.b + v.shelf.geometry.b ≤ length v.log.now
    record_room r e = latest-low v.shelf a v.log.now v.list.now (seen_ready v a long) v.x v.x_lt_s i r (sym (v.sources_told.newest i hi) ∙ e)

    pub seen_sound : failed_role v.shelf v.x i ≡ false → array_block v.shelf.geometry a v.x i ≡ served_block (seen v a) v.x i
    seen_sound = given_sound v.shelf a v.log.now v.list.now (seen_ready v a long) v.x v.x_lt_s i

    module _ (t : failed_role v.shelf v.x i ≡ true) where
      pub seen_logged : (r : ℕ) → get_or v.from.now.latest i None ≡ Some r → block v.shelf.geometry.b r v.log.now ≡ served_block (seen v a) v.x i
      seen_logged r e = given_log v.shelf a v.log.now v.list.now (seen_ready v a long) v.x v.x_lt_s i t r (sym (v.sources_told.newest i hi) ∙ e)

      pub seen_lost : get_or v.from.now.latest i None ≡ None → lost_block (seen v a) v.x i ≡ served_block (seen v a) v.x i
      seen_lost e = given_lost v.shelf a v.log.now v.list.now (seen_ready v a long) v.x v.x_lt_s i t (sym (v.sources_told.newest i hi) ∙ e)

-- all that is known of a view's block
pub ruleset blocks_seen = (lost_role, record_room, seen_sound, seen_logged, seen_lost)

-- a block worked back
pub ruleset works_back = (other_few, other_by, worked, seen_ready)

-- a stripe filled, block by block
pub ruleset fills = (lost_role, filled_start, filled_more, filled_sound, below_so_far)

-- the first block of a buffer that begins with it
pub block_first : (b : ℕ) (w rest : List ℕ) → length w ≡ b → block b 0 (w ++ rest) ≡ w
unfolding block
block_first b w rest e =
    ap (λ (n : ℕ). take b (drop n (w ++ rest))) (zero-mul b) ∙ ap (λ (n : ℕ). take n (w ++ rest)) (sym e) ∙ take-append_seam w rest
