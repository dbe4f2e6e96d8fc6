-- The agreement of shelf and book: what holds of a shelf's state and its book between any two calls. A shelf goes on agreeing when the bytes of
-- failed members change.
-- Assumes nothing.
use mathlib.Core.Bool.{Bool, true, false, ◌||◌}
use mathlib.Core.List.{List}
use Rattle.std.specs.Prelude.{Option, None as none, Some as some}
use mathlib.Core.Path.{◌≡◌, sym, ap, ap₂, ◌∙◌, subst}
use Prim.Native.Nat.{ℕ, ◌≤◌, ◌<◌}
use native.Mathlib.Omega.{arith}
use Rattle.stripe.proofs.Laws.{one_to_one}
use lib.ListN.{length}
use Rattle.shelf.specs.Counting.{count}
use Rattle.shelf.specs.Members.{InRange, array_members, log_member, all_members, parity_role, member_at, IsBlock, block_parity}
use Rattle.shelf.specs.State.{Log, State, is_some, listed, marks_in}
use Rattle.shelf.specs.Status.{array_failed, log_failed}
use Rattle.shelf.specs.Book.{Book}
use Rattle.shelf.specs.Sequence.{Reported}
use Rattle.shelf.specs.Clean.{Recalled}
use Rattle.shelf.specs.declared.record.Geometry.{Geometry}
use Rattle.shelf.proofs.general.CountLaws.{any_none}
use Rattle.shelf.proofs.general.TestLaws.{clash}
use Rattle.shelf.proofs.agreement.ListedLaws.{marks_in_ext}

-- a block in each place of a table
abbrev pub AreBlocks : Geometry → (ℕ → ℕ → List ℕ) → Type 0
AreBlocks g f = (x i : ℕ) → x < g.s → i < g.d → IsBlock g (f x i)

-- The log against the blocks held and the originals: the blocks that a stripe's parity was made of. lost: the log has failed, and its records may
-- hold anything.
pub record Noted (g : Geometry) (lost : Bool) (held orig : ℕ → ℕ → List ℕ) (n : Log) : Type 0 where
  -- a block with no Cur is its own original
  pub plain : (x i : ℕ) → x < g.s → i < g.d → n.cur x i ≡ none → orig x i ≡ held x i
  -- an Ori is a record in use, of the original
  pub oris : (x i : ℕ) → x < g.s → i < g.d → (r : ℕ) → n.ori x i ≡ some r → (r < n.next) × (lost ≡ false → n.value r ≡ orig x i)
  -- a Cur is a record in use, of the block held
  pub curs : (x i : ℕ) → x < g.s → i < g.d → (r : ℕ) → n.cur x i ≡ some r → (r < n.next) × (lost ≡ false → n.value r ≡ held x i)

-- A state and its book, all but what holds where nothing is listed.
pub record Nearly (g : Geometry) (s : State) (b : Book) : Type 0 where
  pub mode : s.mode ≡ b.state.mode
  pub next : s.log.next ≡ b.state.used
  pub failed : s.failed ≡ b.failed
  -- listed are the marked blocks
  pub marks : (x i : ℕ) → x < g.s → i < g.d → listed s.log x i ≡ b.state.marks x i
  -- a sound disk holds what the book holds
  pub sound : (x i : ℕ) → x < g.s → i < g.d → s.failed (member_at g x i) ≡ false → s.disk x i ≡ b.held x i
  pub helds : AreBlocks g b.held
  -- the originals
  pub orig : ℕ → ℕ → List ℕ
  pub origs : AreBlocks g orig
  pub noted : Noted g (log_failed g s.failed) b.held orig s.log
  -- sound parity is parity of the originals
  pub parity : (x p : ℕ) → x < g.s → p < g.parities → s.failed (member_at g x (parity_role g p)) ≡ false → s.parity x p ≡ block_parity g p (orig x)
  -- a stripe with a listed block that has no Ori is listed whole
  pub whole : (x i j : ℕ) → x < g.s → i < g.d → j < g.d → s.log.ori x i ≡ none → listed s.log x i ≡ true → listed s.log x j ≡ true
  -- no more members have failed than there are parities; while accelerating, the log has not
  pub few : count (all_members g) s.failed ≤ g.parities
  pub one : s.mode ≡ 1 → log_failed g s.failed ≡ false

-- What number 1 asks of a record, beside what `Nearly` and `Agrees` say.
pub record Valid (g : Geometry) (s : State) : Type 0 where
  pub room : s.log.next ≤ g.l
  pub fits : marks_in g (listed s.log) ≤ g.e
  pub modes : s.mode ≤ 2
  pub zero : s.mode ≡ 0 → marks_in g (listed s.log) ≡ 0
  pub top : (i : ℕ) → all_members g ≤ i → s.failed i ≡ false

pub record Agrees (g : Geometry) (s : State) (b : Book) : Type 0 where
  pub near : Nearly g s b
  pub valid : Valid g s
  -- where nothing is listed, every log record is free and the mode is not 2
  pub idle : marks_in g (listed s.log) ≡ 0 → (s.log.next ≡ 0) × (s.mode ≡ 2 → ⊥)

-- The invariant, whole: what was reported of a failed member is what a sound one would hold, the block held or the parity of the originals.
pub record Invariant (g : Geometry) (s : State) (b : Book) (k : Reported) : Type 0 where
  pub agrees : Agrees g s b
  pub recalled : Recalled g s.failed b.held agrees.near.orig k

-- a member's blocks are those that were reported of it
pub record AsReported (g : Geometry) (s : State) (j : ℕ) (k : Reported) : Type 0 where
  pub blocks : (x i : ℕ) → x < g.s → i < g.d → member_at g x i ≡ j → s.disk x i ≡ k (member_at g x i) x
  pub parity : (x p : ℕ) → x < g.s → p < g.parities → member_at g x (parity_role g p) ≡ j → s.parity x p ≡ k (member_at g x (parity_role g p)) x

-- there is a data disk
pub positive : {g : Geometry} → InRange g → 0 < g.d
positive Y = omega (arith, Y.d_least)

-- where no array member has failed, every disk holds what the book holds
pub all_sound : {g : Geometry} {s : State} {b : Book} → Nearly g s b → array_failed g s.failed ≡ false
    → (x i : ℕ) → x < g.s → i < g.d → s.disk x i ≡ b.held x i
all_sound {g} {s} {b} A ok x i hx hi =
    A.sound x i hx hi (any_none (array_members g) s.failed ok (member_at g x i) ((one_to_one g.layout g.d g.parities x).within i (omega arith)))

-- and of no member a report is recalled
pub none_recalled : (g : Geometry) (f : ℕ → Bool) (held orig : ℕ → ℕ → List ℕ) (k : Reported) → array_failed g f ≡ false → Recalled g f held orig k
none_recalled g f held orig k ok =
    record { blocks = λ x i _ hi e. clash e (sound x i (omega arith)); parity = λ x p _ hp e. clash e (sound x (parity_role g p) (omega arith)) }
  where
    sound : (x i : ℕ) → i < array_members g → f (member_at g x i) ≡ false
    sound x i h = any_none (array_members g) f ok (member_at g x i) ((one_to_one g.layout g.d g.parities x).within i h)

-- where fewer have failed, less is recalled
pub fewer_recalled : (g : Geometry) {f f' : ℕ → Bool} {held orig : ℕ → ℕ → List ℕ} {k : Reported} → ((i : ℕ) → f' i ≡ true → f i ≡ true)
    → Recalled g f held orig k → Recalled g f' held orig k
fewer_recalled g fewer R =
    record {
      blocks = λ x i hx hi e. R.blocks x i hx hi (fewer (member_at g x i) e);
      parity = λ x p hx hp e. R.parity x p hx hp (fewer (member_at g x (parity_role g p)) e);
    }

-- of the blocks held, only those within the geometry matter
pub held_ext : (g : Geometry) (s : State) (b : Book) (h : ℕ → ℕ → List ℕ) → ((x i : ℕ) → x < g.s → i < g.d → h x i ≡ b.held x i)
    → Agrees g s b → Agrees g s (record { held = h; failed = b.failed; state = b.state })
held_ext g s b h e A =
    let N = A.near in
    record {
      near =
          record {
            mode = N.mode;
            next = N.next;
            failed = N.failed;
            marks = N.marks;
            sound = λ x i hx hi f. N.sound x i hx hi f ∙ sym (e x i hx hi);
            helds = λ x i hx hi. subst (IsBlock g) (sym (e x i hx hi)) (N.helds x i hx hi);
            orig = N.orig;
            origs = N.origs;
            noted =
                record {
                  plain = λ x i hx hi c. N.noted.plain x i hx hi c ∙ sym (e x i hx hi);
                  oris = N.noted.oris;
                  curs = λ x i hx hi r c. let a = N.noted.curs x i hx hi r c in (a.0, λ l. a.1 l ∙ sym (e x i hx hi));
                };
            parity = N.parity;
            whole = N.whole;
            few = N.few;
            one = N.one;
          };
      valid = A.valid;
      idle = A.idle;
    }

-- ---- failed members' bytes

-- t is s but for failed members' blocks and whatever lies outside the geometry
pub record Alike (g : Geometry) (s t : State) : Type 0 where
  pub disk : (x i : ℕ) → x < g.s → i < g.d → s.failed (member_at g x i) ≡ false → t.disk x i ≡ s.disk x i
  pub parity : (x p : ℕ) → x < g.s → p < g.parities → s.failed (member_at g x (parity_role g p)) ≡ false → t.parity x p ≡ s.parity x p
  pub log : (r : ℕ) → r < g.l → log_failed g s.failed ≡ false → length (s.log.value r) ≡ g.b → t.log.value r ≡ s.log.value r
  pub next : t.log.next ≡ s.log.next
  pub ori : (x i : ℕ) → x < g.s → i < g.d → t.log.ori x i ≡ s.log.ori x i
  pub cur : (x i : ℕ) → x < g.s → i < g.d → t.log.cur x i ≡ s.log.cur x i
  pub mode : t.mode ≡ s.mode
  pub failed : t.failed ≡ s.failed

module _ {g : Geometry} {s t : State} {b : Book} {k : Reported} (L : Alike g s t) (I : Invariant g s b k) where
  abbrev A : Agrees g s b
  A = I.agrees

  abbrev N : Nearly g s b
  N = I.agrees.near

  seen : (x i : ℕ) → x < g.s → i < g.d → listed t.log x i ≡ listed s.log x i
  seen x i hx hi = ap₂ (λ (o c : Option ℕ). is_some o || is_some c) (L.ori x i hx hi) (L.cur x i hx hi)

  count_seen : marks_in g (listed t.log) ≡ marks_in g (listed s.log)
  count_seen = marks_in_ext g (listed t.log) (listed s.log) seen

  member : (i : ℕ) → s.failed i ≡ t.failed i
  member i = ap (λ (f : ℕ → Bool). f i) (sym L.failed)

  pub alike_keeps : Invariant g t b k
  alike_keeps =
      record {
        agrees =
            record {
              near =
                  record {
                    mode = L.mode ∙ N.mode;
                    next = L.next ∙ N.next;
                    failed = L.failed ∙ N.failed;
                    marks = λ x i hx hi. seen x i hx hi ∙ N.marks x i hx hi;
                    sound = λ x i hx hi e. L.disk x i hx hi (member (member_at g x i) ∙ e) ∙ N.sound x i hx hi (member (member_at g x i) ∙ e);
                    helds = N.helds;
                    orig = N.orig;
                    origs = N.origs;
                    noted =
                        record {
                          plain = λ x i hx hi e. N.noted.plain x i hx hi (sym (L.cur x i hx hi) ∙ e);
                          oris = λ x i hx hi r e. kept r (N.orig x i) (N.origs x i hx hi).0 (N.noted.oris x i hx hi r (sym (L.ori x i hx hi) ∙ e));
                          curs = λ x i hx hi r e. kept r (b.held x i) (N.helds x i hx hi).0 (N.noted.curs x i hx hi r (sym (L.cur x i hx hi) ∙ e));
                        };
                    parity = λ x p hx hp e.
                        L.parity x p hx hp (member (member_at g x (parity_role g p)) ∙ e) ∙ N.parity x p hx hp (member (member_at g x (parity_role g p)) ∙ e);
                    whole = λ x i j hx hi hj e e'. seen x j hx hj ∙ N.whole x i j hx hi hj (sym (L.ori x i hx hi) ∙ e) (sym (seen x i hx hi) ∙ e');
                    few = rw L.failed N.few;
                    one = λ e. sym (member (log_member g)) ∙ N.one (sym L.mode ∙ e);
                  };
              valid =
                  record {
                    room = omega (arith, A.valid.room, L.next);
                    fits = omega (arith, A.valid.fits, count_seen);
                    modes = omega (arith, A.valid.modes, L.mode);
                    zero = λ e. count_seen ∙ A.valid.zero (sym L.mode ∙ e);
                    top = λ i h. sym (member i) ∙ A.valid.top i h;
                  };
              idle = λ e. let w = A.idle (sym count_seen ∙ e) in (L.next ∙ w.0, λ z. w.1 (sym L.mode ∙ z));
            };
        recalled = subst (λ (f : ℕ → Bool). Recalled g f b.held N.orig k) (sym L.failed) I.recalled;
      }
    where
      -- a record in use
      kept : (r : ℕ) (v : List ℕ) → length v ≡ g.b → (r < s.log.next) × (log_failed g s.failed ≡ false → s.log.value r ≡ v)
          → (r < t.log.next) × (log_failed g t.failed ≡ false → t.log.value r ≡ v)
      kept r v long w = (
        omega (arith, w.0, L.next),
        λ z.
            let same = w.1 (member (log_member g) ∙ z) in
            L.log r (omega (arith, w.0, A.valid.room)) (member (log_member g) ∙ z) (ap length same ∙ long) ∙ same,
      )
