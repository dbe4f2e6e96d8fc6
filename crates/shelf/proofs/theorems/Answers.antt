-- The promises of the calls can be kept, and leave nothing open. On whatever is lent each call has an answer that meets `Answered` (`an_answer`), and
-- one only (`one_answer`): the number, and record, array, log and list as they are handed back. So every list of calls, where the data that they are
-- given are bytes, has a sequence: from whatever is lent on, if what was reported of failed members is what they hold (`a_sequence`), and from a fresh
-- shelf on (`from_fresh`). In it the bytes of failed members never change, and every put-back has its premise.
-- Assumes nothing.
use mathlib.Core.List.{List, [], ◌∷◌}
use mathlib.Core.Path.{◌≡◌, refl, sym, ◌∙◌, subst}
use Prim.Native.Nat.{ℕ}
use native.Mathlib.Decide.{ℕ_discrete}
use lib.ListN.{length}
use Rattle.shelf.specs.State.{State}
use Rattle.shelf.specs.Status.{Call, start, fail, put_back, write, read, fetch, resync, rebuild, new_log, full_resync}
use Rattle.shelf.specs.Calls.{work}
use Rattle.shelf.specs.Lent.{Lent, lent, state_of, number_of, record_of, array_of, log_of, list_of, Leaves, Answered, read_buffer, fetch_buffer, formatted}
use Rattle.shelf.specs.Sequence.{Fed, Hands, Reported, unreported, reported_after, Returned, Kept, Changed, Sequence, over, step}
use Rattle.shelf.specs.declared.record.Geometry.{Geometry}
use Rattle.shelf.proofs.lent.LeavesLaws.{refused_answered}
use Rattle.shelf.proofs.lent.Holding.{leaves_is, answered_geometry}
use Rattle.shelf.proofs.general.TestLaws.{clash}
use Rattle.shelf.proofs.lent.FreshLaws.{no_flag}
use Rattle.shelf.proofs.lent.ReportLaws.{kept_returned, kept_after}

-- ---- one call

-- a state can be laid out
laid : (g : Geometry) (s : State) → Leaves g s (lent (record_of g s) (array_of g s) (log_of g s) (list_of g s))
laid g s = record { shelf = refl; array = refl; log = refl; list = refl }

module _ (h : Lent) (c : Call) where
  abbrev g : Geometry
  g = h.shelf.geometry

  abbrev after : State
  after = work g c (state_of h)

  abbrev number : ℕ
  number = number_of h.shelf (length h.array) (length h.log) h.list c

  -- there is an answer
  pub an_answer : (code : ℕ) × (h' : Lent) × Answered h c code h'
  an_answer =
      elim (ℕ_discrete number 0) [
        | yes z ↦ (
          number,
          lent (record_of g after) (array_of g after) (log_of g after) (list_of g after),
          record { number = refl; done = λ _. laid g after; refused = λ r. absurd (r z) },
        )
        | no z ↦ (number, h, refused_answered h c number refl z)
      ]

  -- and no other
  pub one_answer : (code code' : ℕ) (h' h'' : Lent) → Answered h c code h' → Answered h c code' h'' → (code ≡ code') × (h' ≡ h'')
  one_answer code code' h' h'' A B =
      let same : code ≡ code' = A.number ∙ sym B.number in (
        same,
        elim (ℕ_discrete code 0) [
          | yes z ↦ leaves_is g after h' (A.done z) ∙ sym (leaves_is g after h'' (B.done (sym same ∙ z)))
          | no z ↦ A.refused z ∙ sym (B.refused (λ e. z (same ∙ e)))
        ],
      )

-- ---- sequences

-- what a call hands over
handed : (g : Geometry) (h : Lent) (c : Call) (code : ℕ) → (out : List ℕ) × Hands g h c code out
handed g h start code = ([], tt)
handed g h (fail j) code = ([], tt)
handed g h (put_back j) code = ([], tt)
handed g h (write a n v) code = ([], tt)
handed g h (read a n len) code = (read_buffer g (state_of h) a n, λ _. refl)
handed g h (fetch a n len) code = (fetch_buffer g (state_of h) a n, λ _. refl)
handed g h resync code = ([], tt)
handed g h rebuild code = ([], tt)
handed g h new_log code = ([], tt)
handed g h full_resync code = ([], tt)

-- failed members' bytes may stay
unchanged : (g : Geometry) (h : Lent) → Changed g h h
unchanged g h =
    record { shelf = refl; list = refl; array-length = refl; log-length = refl; array = λ x i _ _ _. refl; log = λ _. refl }

-- what the calls are given are bytes
abbrev pub AllFed : List Call → Type 0
AllFed [] = Unit {0}
AllFed (c ∷ cs) = Fed c × AllFed cs

-- from whatever is lent on, where each failed member of the array holds what was reported of it
pub a_sequence : (g : Geometry) (cs : List Call) → AllFed cs → (h : Lent) (k : Reported) → h.shelf.geometry ≡ g → Kept g h k → Sequence g cs h k
a_sequence g [] fed h k is kept = over
a_sequence g (c ∷ cs) fed h k is kept =
    let a = an_answer h c in
    let o = handed g h c a.0 in
    let here : Kept h.shelf.geometry h k = subst (λ (l : Geometry). Kept l h k) (sym is) kept in
    step a.0 o.0 a.1 a.1 fed.0 (subst (λ (l : Geometry). Returned l h c a.0 k) is (kept_returned h k here c a.0 a.2.number)) a.2 o.1
    (unchanged g a.1)
    (a_sequence g cs fed.1 a.1 (reported_after g h c a.0 k) (answered_geometry h c a.0 a.1 a.2 ∙ is)
    (subst (λ (l : Geometry). Kept l a.1 (reported_after l h c a.0 k)) is (kept_after h k here c a.0 a.1 a.2)))

-- and so from a fresh shelf on
pub from_fresh : (g : Geometry) (cs : List Call) → AllFed cs → Sequence g cs (formatted g) unreported
unfolding formatted
from_fresh g cs fed = a_sequence g cs fed (formatted g) unreported refl (λ m x _ _ e. clash e (no_flag 19 m))
