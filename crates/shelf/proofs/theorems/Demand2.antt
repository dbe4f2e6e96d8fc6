-- The customer's second demand. On a shelf reached from a fresh one, in every stripe not awaiting resynchronisation, each stored parity, P and,
-- where there are two, Q, equals, where its disk is sound, that of Anvin's published RAID-6 mathematics for the blocks last written there
-- (`stored_parity`); and as many missing blocks of a stripe that obeys it as it has parities are worked back exactly (`recovered-stripe`, of the
-- stripe crate).
-- Assumes nothing.
use mathlib.Core.Bool.{false}
use mathlib.Core.Path.{◌≡◌, ◌∙◌, subst}
use Prim.Native.Nat.{ℕ, ◌<◌}
use Rattle.shelf.specs.Members.{parity_role, member_at, block_parity}
use Rattle.shelf.specs.State.{State, stale}
use Rattle.shelf.specs.Book.{Book}
use Rattle.shelf.specs.Lent.{Lent, state_of, bad_measures}
use Rattle.shelf.specs.Sequence.{Reported, Reached}
use Rattle.shelf.specs.Clean.{Parity}
use Rattle.shelf.specs.declared.record.Geometry.{Geometry}
use Rattle.shelf.proofs.general.CountLaws.{any_none}
use Rattle.shelf.proofs.agreement.RowParity.{block_parity_ext}
use Rattle.shelf.proofs.agreement.ListedLaws.{unlisted}
use Rattle.shelf.proofs.agreement.Agreement.{Agrees}
use Rattle.shelf.proofs.numbers.InputLaws.{in_range_lem}
use Rattle.shelf.proofs.lent.Holding.{Holds}
use Rattle.shelf.proofs.lent.Reaching.{Stands, stands}
pub use Rattle.stripe.proofs.Laws.{recovered-stripe}

-- ---- on states: sound parity of a stripe that is not stale is parity of what the book holds

module _ {g : Geometry} {s : State} {b : Book} (A : Agrees g s b) (x : ℕ) (hx : x < g.s) (rest : stale g b.state.marks x ≡ false) where
  held_orig : (i : ℕ) → i < g.d → A.near.orig x i ≡ b.held x i
  held_orig i hi =
      A.near.noted.plain x i hx hi
      (unlisted s.log x i (A.near.marks x i hx hi ∙ any_none g.d (b.state.marks x) rest i hi)).1

  stored : (p : ℕ) → p < g.parities → s.failed (member_at g x (parity_role g p)) ≡ false → s.parity x p ≡ block_parity g p (b.held x)
  stored p hp f = A.near.parity x p hx hp f ∙ block_parity_ext g p (A.near.orig x) (b.held x) held_orig

-- ---- on what is lent

parity-here : (h : Lent) (b : Book) → Holds h b → (x : ℕ) → x < h.shelf.geometry.s → stale h.shelf.geometry b.state.marks x ≡ false
    → Parity h.shelf.geometry h b x
unfolding state_of
parity-here h b H x hx rest = record { each = stored H.agrees x hx rest }

pub standing-parity : (g : Geometry) (h : Lent) (b : Book) {k : Reported} → Stands g h b k → (x : ℕ) → x < g.s → stale g b.state.marks x ≡ false → Parity g h b x
standing-parity g h b S =
    subst (λ (l : Geometry). (x : ℕ) → x < l.s → stale l b.state.marks x ≡ false → Parity l h b x) S.geometry (parity-here h b S.all.holds)

pub stored_parity : (g : Geometry) → bad_measures g ≡ false → (h : Lent) (b : Book) → Reached g h b
    → (x : ℕ) → x < g.s → stale g b.state.marks x ≡ false → Parity g h b x
stored_parity g fine h b R = standing-parity g h b (stands (in_range_lem g fine) R.1)
