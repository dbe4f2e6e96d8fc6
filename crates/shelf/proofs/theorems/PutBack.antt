-- A report that is taken back, on any shelf. An accepted report of an array member that is put back by the next call leaves the record as it was
-- (`next_call`). One that is put back after another member was reported, the log or one of the array, leaves what the second report alone would
-- leave (`after_another`). Of two members of the array that were reported one after the other, either is put back first, and then the other alone is
-- a reported one (`last-back`, `first_back`): it is put back by the next call (`last_first`, `first_first`), or the log fails before that
-- (`after_another`). Each put-back is accepted, and the record is as said. Where a put-back has its premise, that the member's blocks are those that
-- it had when it was reported, no byte of a member that has not failed differs either (`Changed`).
-- Assumes nothing.
use mathlib.Core.Bool.{true, false}
use mathlib.Core.List.{List}
use mathlib.Core.Logic.{◌≢◌}
use mathlib.Core.Path.{◌≡◌, refl, sym, ap, ◌∙◌, subst}
use Prim.Native.Nat.{ℕ, ◌≤◌, ◌<◌}
use native.Mathlib.Decide.{ℕ_discrete}
use native.Mathlib.Omega.{arith}
use lib.ListN.{length, get_or, length-set}
use lib.Seq.{get_or-set_same, get_or-set_other}
use Rattle.stripe.specs.Places.{place}
use Rattle.stripe.proofs.Laws.{one_to_one}
use Rattle.shelf.specs.Members.{array_members, log_member, all_members, member_at}
use Rattle.shelf.specs.Counting.{count}
use Rattle.shelf.specs.Status.{fail, put_back}
use Rattle.shelf.specs.Calls.{work}
use Rattle.shelf.specs.Lent.{Lent, lent, flag_at, array_block, member_block, state_of, tries_list, Answered}
use Rattle.shelf.specs.Sequence.{Changed}
use Rattle.shelf.specs.below.Records.{with_failed, with_renewed}
use Rattle.shelf.specs.declared.record.Geometry.{Geometry}
use Rattle.shelf.specs.declared.record.Shelf.{Shelf}
use Rattle.shelf.proofs.general.TestLaws.{clash}
use Rattle.shelf.proofs.numbers.TableRows.{zero_put_back, zero_fail}
use Rattle.shelf.proofs.numbers.InputLaws.{Passed, passed_number}
use Rattle.shelf.proofs.numbers.CodeLaws.{fail_bounds}
use Rattle.shelf.proofs.numbers.FailureLaws.{reported_fine, report_undone, report_left}
use Rattle.shelf.proofs.agreement.StatusLaws.{fail_passed}
use Rattle.shelf.proofs.lent.LeavesLaws.{tried_passed, accepted_code, fail_answered, renewed_answered}
use Rattle.shelf.proofs.theorems.Answers.{one_answer}

-- the member's blocks are those that it has on h
abbrev pub Same : Geometry → Lent → Lent → ℕ → Type 0
Same g h h' j = (x : ℕ) → x < g.s → member_block g h'.array j x ≡ member_block g h.array j x

-- what every caller lends: nineteen flags, and bytes for a list
pub record Proper (g : Geometry) (h : Lent) : Type 0 where
  pub geometry : h.shelf.geometry ≡ g
  pub flags : length h.shelf.failed ≡ 19
  pub bytes : (i : ℕ) → get_or h.list i 0 < 256

-- ---- bytes of sound members

-- from change to change
changed_then : (g : Geometry) (h h' h'' : Lent) → Changed g h h' → Changed g h' h'' → Changed g h h''
changed_then g h h' h'' C D =
    let sound : (m : ℕ) → flag_at h.shelf m ≡ false → flag_at h'.shelf m ≡ false = λ m e. ap (λ (r : Shelf). flag_at r m) C.shelf ∙ e in
    record {
      shelf = D.shelf ∙ C.shelf;
      list = D.list ∙ C.list;
      array-length = D.array-length ∙ C.array-length;
      log-length = D.log-length ∙ C.log-length;
      array = λ x i hx hi e. D.array x i hx hi (sound (member_at g x i) e) ∙ C.array x i hx hi e;
      log = λ e. D.log (sound (log_member g) e) ∙ C.log e;
    }

-- a sound member's blocks stay
member_stays : (g : Geometry) (h h' : Lent) → Changed g h h' → (m : ℕ) → m < array_members g → flag_at h.shelf m ≡ false → Same g h h' m
unfolding place
member_stays g h h' C m hm e x hx =
    let o = (one_to_one g.layout g.d g.parities x).onto m hm in
    sym (ap (λ (k : ℕ). member_block g h'.array k x) o.2) ∙ C.array x o.0 hx o.1 (ap (flag_at h.shelf) o.2 ∙ e)
    ∙ ap (λ (k : ℕ). member_block g h.array k x) o.2

-- ---- one report

module _ (h : Lent) (flags : length h.shelf.failed ≡ 19) (bytes : (i : ℕ) → get_or h.list i 0 < 256) (j : ℕ) (h₁ : Lent) (A : Answered h (fail j) 0 h₁) where
  -- what the report passed
  passed : (j ≤ log_member h.shelf.geometry) × ((flag_at h.shelf j ≡ false) × (count (all_members h.shelf.geometry) (flag_at h.shelf) < h.shelf.geometry.parities))
  unfolding state_of
  passed = fail_passed h.shelf.geometry (state_of h) j (accepted_code h (fail j) A.number)

  inputs : Passed h.shelf (length h.array) (length h.log) h.list
  unfolding tries_list
  inputs = tried_passed h.shelf h.array h.log h.list (fail j) refl A.number

  bound : j < 19
  bound = (fail_bounds h.shelf (length h.array) (length h.log) h.list j A.number).1

  -- it leaves the buffers
  report_is : h₁ ≡ lent (with_failed h.shelf j) h.array h.log h.list
  report_is = (one_answer h (fail j) 0 0 h₁ _ A (fail_answered h.shelf h.array h.log h.list flags bytes j bound A.number)).1

  module _ (h₂ : Lent) (C : Changed h.shelf.geometry h₁ h₂) where
    -- then failed members' bytes change
    there : h₂ ≡ lent (with_failed h.shelf j) h₂.array h₂.log h.list
    there = λ i. record {
      shelf = (C.shelf ∙ ap (λ (k : Lent). k.shelf) report_is) i;
      array = h₂.array;
      log = h₂.log;
      list = (C.list ∙ ap (λ (k : Lent). k.list) report_is) i;
    }

    array_long : length h₂.array ≡ length h.array
    array_long = C.array-length ∙ ap (λ (k : Lent). length k.array) report_is

    log-long : length h₂.log ≡ length h.log
    log-long = C.log-length ∙ ap (λ (k : Lent). length k.log) report_is

    -- rows 1 to 3 pass
    reported_passed : Passed (with_failed h.shelf j) (length h₂.array) (length h₂.log) h.list
    reported_passed =
        let P = inputs in
        record {
          range = P.range;
          fine = reported_fine h.shelf P.range P.fine flags j passed.0 passed.1.1;
          array = array_long ∙ P.array;
          log = log-long ∙ P.log;
          list = P.list;
          valid = P.valid;
        }

    -- other members that had not failed have their bytes
    sound_then : (m : ℕ) → m ≢ j → flag_at h.shelf m ≡ false → flag_at h₁.shelf m ≡ false
    sound_then m n e = ap (λ (k : Lent). flag_at k.shelf m) report_is ∙ get_or-set_other h.shelf.failed j m true false n ∙ e

    block_stays : (x i : ℕ) → x < h.shelf.geometry.s → i < array_members h.shelf.geometry → member_at h.shelf.geometry x i ≢ j → flag_at h.shelf (member_at h.shelf.geometry x i) ≡ false
        → array_block h.shelf.geometry h₂.array x i ≡ array_block h.shelf.geometry h.array x i
    block_stays x i hx hi n e =
        C.array x i hx hi (sound_then (member_at h.shelf.geometry x i) n e) ∙ ap (λ (k : Lent). array_block h.shelf.geometry k.array x i) report_is

    log_stays : log_member h.shelf.geometry ≢ j → flag_at h.shelf (log_member h.shelf.geometry) ≡ false → h₂.log ≡ h.log
    log_stays n e = C.log (sound_then (log_member h.shelf.geometry) n e) ∙ ap (λ (k : Lent). k.log) report_is

-- a put-back that rows 1 to 3 let pass, of a failed member of the array
back_is : (h : Lent) → length h.shelf.failed ≡ 19 → ((i : ℕ) → get_or h.list i 0 < 256) → Passed h.shelf (length h.array) (length h.log) h.list
    → (j : ℕ) → j < array_members h.shelf.geometry → flag_at h.shelf j ≡ true → (code : ℕ) (h' : Lent) → Answered h (put_back j) code h'
    → (code ≡ 0) × (h' ≡ lent (with_renewed h.shelf j) h.array h.log h.list)
unfolding work state_of tries_list
back_is h flags bytes P j hj e code h' A =
    let zero = passed_number h.shelf (length h.array) (length h.log) h.list P (put_back j) ∙ zero_put_back h.shelf.geometry (flag_at h.shelf) _ _ j hj e in
    let accepted : code ≡ 0 = A.number ∙ zero in (
      accepted,
      (one_answer h (put_back j) code 0 h' _ A
          (renewed_answered h.shelf h.array h.log h.list flags bytes (put_back j) j (omega (arith, hj, P.range.d_most, P.range.parities_most)) refl refl (sym zero))).1,
    )

-- ---- put back

module _ (h : Lent) (flags : length h.shelf.failed ≡ 19) (bytes : (i : ℕ) → get_or h.list i 0 < 256) (j : ℕ) (hj : j < array_members h.shelf.geometry) (h₁ : Lent) (A : Answered h (fail j) 0 h₁)
    (h₂ : Lent) (C : Changed h.shelf.geometry h₁ h₂) where
  -- the shelf with the member reported
  abbrev reported : Lent
  reported = lent (with_failed h.shelf j) h₂.array h₂.log h.list

  abbrev is-there : h₂ ≡ reported
  is-there = there h flags bytes j h₁ A h₂ C

  fits : j < length h.shelf.failed
  fits = omega (arith, flags, bound h flags bytes j h₁ A)

  sound : flag_at h.shelf j ≡ false
  sound = (passed h flags bytes j h₁ A).1.0

  flagged : flag_at (with_failed h.shelf j) j ≡ true
  flagged = get_or-set_same h.shelf.failed j true false fits

  -- a block of the member that is put back, and of the others
  either_block : (a : List ℕ) → ((x : ℕ) → x < h.shelf.geometry.s → member_block h.shelf.geometry a j x ≡ member_block h.shelf.geometry h.array j x) → (x i : ℕ) → x < h.shelf.geometry.s
      → (member_at h.shelf.geometry x i ≢ j → array_block h.shelf.geometry a x i ≡ array_block h.shelf.geometry h.array x i)
      → array_block h.shelf.geometry a x i ≡ array_block h.shelf.geometry h.array x i
  unfolding place
  either_block a same x i hx others =
      elim (ℕ_discrete (member_at h.shelf.geometry x i) j) [
        | yes e ↦
            ap (λ (k : ℕ). member_block h.shelf.geometry a k x) e ∙ same x hx ∙ ap (λ (k : ℕ). member_block h.shelf.geometry h.array k x) (sym e)
        | no e ↦ others e
      ]

  next_here : (code : ℕ) (h₃ : Lent) → Answered h₂ (put_back j) code h₃
      → (code ≡ 0) × ((h₃.shelf ≡ h.shelf) × (Same h.shelf.geometry h h₂ j → Changed h.shelf.geometry h h₃))
  next_here code h₃ B =
      let b =
      back_is reported (length-set h.shelf.failed j true ∙ flags) bytes (reported_passed h flags bytes j h₁ A h₂ C) j hj flagged code h₃
      (subst (λ (k : Lent). Answered k (put_back j) code h₃) is-there B) in
      let q : h₃ ≡ lent h.shelf h₂.array h₂.log h.list =
      b.1 ∙ ap (λ (r : Shelf). lent r h₂.array h₂.log h.list) (report_undone h.shelf j hj sound fits) in (
        b.0,
        (
          ap (λ (k : Lent). k.shelf) q,
          λ same.
              subst (Changed h.shelf.geometry h) (sym q) (record {
                shelf = refl;
                list = refl;
                array-length = array_long h flags bytes j h₁ A h₂ C;
                log-length = log-long h flags bytes j h₁ A h₂ C;
                array = λ x i hx hi e. either_block h₂.array same x i hx (λ n. block_stays h flags bytes j h₁ A h₂ C x i hx hi n e);
                log = λ e. log_stays h flags bytes j h₁ A h₂ C (λ z. omega (arith, z, hj)) e;
              }),
        ),
      )

  -- with member m reported in between
  module _ (m : ℕ) (h₃ : Lent) (B : Answered h₂ (fail m) 0 h₃) (h₄ : Lent) (D : Changed h.shelf.geometry h₃ h₄) where
    B' : Answered reported (fail m) 0 h₃
    B' = subst (λ (k : Lent). Answered k (fail m) 0 h₃) is-there B

    flags' : length (with_failed h.shelf j).failed ≡ 19
    flags' = length-set h.shelf.failed j true ∙ flags

    another : m ≢ j
    another e = clash (ap (flag_at (with_failed h.shelf j)) e ∙ flagged) (passed reported flags' bytes m h₃ B').1.0

    fits' : m < length h.shelf.failed
    fits' = omega (arith, flags, bound reported flags' bytes m h₃ B')

    -- the second report alone
    alone : Answered h (fail m) 0 (lent (with_failed h.shelf m) h.array h.log h.list)
    alone =
        let g = h.shelf.geometry in
        fail_answered h.shelf h.array h.log h.list flags bytes m (bound reported flags' bytes m h₃ B')
        (sym (passed_number h.shelf (length h.array) (length h.log) h.list (inputs h flags bytes j h₁ A) (fail m)
        ∙ zero_fail g (flag_at h.shelf) _ _ m (passed reported flags' bytes m h₃ B').0
        (sym (get_or-set_other h.shelf.failed j m true false another) ∙ (passed reported flags' bytes m h₃ B').1.0) (passed h flags bytes j h₁ A).1.1))

    -- a member that is sound after it was so before both
    was_sound : (n : ℕ) → flag_at (with_failed h.shelf m) n ≡ false → (n ≢ m) × (flag_at h.shelf n ≡ false)
    was_sound n e =
        let other : n ≢ m = λ q. clash (ap (flag_at (with_failed h.shelf m)) q ∙ get_or-set_same h.shelf.failed m true false fits') e in
        (other, sym (get_or-set_other h.shelf.failed m n true false other) ∙ e)

    after_here : (code : ℕ) (h₅ : Lent) → Answered h₄ (put_back j) code h₅
        → (code ≡ 0) × ((h₅.shelf ≡ with_failed h.shelf m) × (Same h.shelf.geometry h h₄ j → Changed h.shelf.geometry (lent (with_failed h.shelf m) h.array h.log h.list) h₅))
    after_here code h₅ E =
        let there' = there reported flags' bytes m h₃ B' h₄ D in
        let b =
        back_is (lent (with_failed (with_failed h.shelf j) m) h₄.array h₄.log h.list) (length-set (with_failed h.shelf j).failed m true ∙ flags') bytes
        (reported_passed reported flags' bytes m h₃ B' h₄ D) j hj (get_or-set_other (with_failed h.shelf j).failed m j true false (λ e. another (sym e)) ∙ flagged) code h₅
        (subst (λ (k : Lent). Answered k (put_back j) code h₅) there' E) in
        let q : h₅ ≡ lent (with_failed h.shelf m) h₄.array h₄.log h.list =
        b.1 ∙ ap (λ (r : Shelf). lent r h₄.array h₄.log h.list) (report_left h.shelf j hj sound fits m another fits') in (
          b.0,
          (
            ap (λ (k : Lent). k.shelf) q,
            λ same.
                subst (Changed h.shelf.geometry (lent (with_failed h.shelf m) h.array h.log h.list)) (sym q) (record {
                  shelf = refl;
                  list = refl;
                  array-length = array_long reported flags' bytes m h₃ B' h₄ D ∙ array_long h flags bytes j h₁ A h₂ C;
                  log-length = log-long reported flags' bytes m h₃ B' h₄ D ∙ log-long h flags bytes j h₁ A h₂ C;
                  array = λ x i hx hi e.
                      either_block h₄.array same x i hx (λ n.
                      let w = was_sound (member_at h.shelf.geometry x i) e in
                      block_stays reported flags' bytes m h₃ B' h₄ D x i hx hi w.0 (get_or-set_other h.shelf.failed j (member_at h.shelf.geometry x i) true false n ∙ w.1)
                      ∙ block_stays h flags bytes j h₁ A h₂ C x i hx hi n w.1);
                  log = λ e.
                      let w = was_sound (log_member h.shelf.geometry) e in
                      let n : log_member h.shelf.geometry ≢ j = λ z. omega (arith, z, hj) in
                      log_stays reported flags' bytes m h₃ B' h₄ D w.0 (get_or-set_other h.shelf.failed j (log_member h.shelf.geometry) true false n ∙ w.1)
                      ∙ log_stays h flags bytes j h₁ A h₂ C n w.1;
                }),
          ),
        )

-- ---- as the customer asks it

-- Member j is reported on h, from which the shelf is h₂ when the call after it is made.
pub record Report (g : Geometry) (h : Lent) (j : ℕ) (h₂ : Lent) : Type 0 where
  pub left : Lent
  pub accepted : Answered h (fail j) 0 left
  pub changed : Changed g left h₂

-- The put-back of j is accepted, and the record is that of h. Under the premise all else is too, but for bytes of members that have failed on h.
abbrev pub TakenBack : Geometry → Lent → Lent → ℕ → ℕ → Lent → Type 0
TakenBack g h h₂ j code h₃ = (code ≡ 0) × ((h₃.shelf ≡ h.shelf) × (Same g h h₂ j → Changed g h h₃))

module _ (g : Geometry) (h : Lent) (P : Proper g h) where
  pub next_call : (j : ℕ) → j < array_members g → (h₂ : Lent) → Report g h j h₂ → (code : ℕ) (h₃ : Lent) → Answered h₂ (put_back j) code h₃
      → TakenBack g h h₂ j code h₃
  next_call =
      subst (λ (k : Geometry). (j : ℕ) → j < array_members k → (h₂ : Lent) → Report k h j h₂ → (code : ℕ) (h₃ : Lent) → Answered h₂ (put_back j) code h₃
      → TakenBack k h h₂ j code h₃)
      P.geometry (λ j hj h₂ R. next_here h P.flags P.bytes j hj R.left R.accepted h₂ R.changed)

  -- and with another member reported in between: the shelf that its report alone leaves
  pub after_another : (j : ℕ) → j < array_members g → (h₂ : Lent) → Report g h j h₂ → (m : ℕ) (h₄ : Lent) → Report g h₂ m h₄ → (code : ℕ) (h₅ : Lent)
      → Answered h₄ (put_back j) code h₅ → (k : Lent) × (Answered h (fail m) 0 k × ((code ≡ 0) × ((h₅.shelf ≡ k.shelf) × (Same g h h₄ j → Changed g k h₅))))
  after_another =
      subst (λ (l : Geometry). (j : ℕ) → j < array_members l → (h₂ : Lent) → Report l h j h₂ → (m : ℕ) (h₄ : Lent) → Report l h₂ m h₄ → (code : ℕ) (h₅ : Lent)
      → Answered h₄ (put_back j) code h₅ → (k : Lent) × (Answered h (fail m) 0 k × ((code ≡ 0) × ((h₅.shelf ≡ k.shelf) × (Same l h h₄ j → Changed l k h₅)))))
      P.geometry (λ j hj h₂ R m h₄ S code h₅ E. (
        lent (with_failed h.shelf m) h.array h.log h.list,
        (
          alone h P.flags P.bytes j hj R.left R.accepted h₂ R.changed m S.left S.accepted h₄ S.changed,
          after_here h P.flags P.bytes j hj R.left R.accepted h₂ R.changed m S.left S.accepted h₄ S.changed code h₅ E,
        ),
      ))

  -- the shelf with a member reported is proper too
  proper_then : (j : ℕ) (h₂ : Lent) → Report g h j h₂ → Proper g h₂
  proper_then j h₂ R =
      let e = there h P.flags P.bytes j R.left R.accepted h₂ (subst (λ (k : Geometry). Changed k R.left h₂) (sym P.geometry) R.changed) in
      subst (Proper g) (sym e) (record { geometry = P.geometry; flags = length-set h.shelf.failed j true ∙ P.flags; bytes = P.bytes })

-- ---- two members of the array, i and then j, are reported

module _ (g : Geometry) (h : Lent) (P : Proper g h) (i j : ℕ) (hi : i < array_members g) (hj : j < array_members g) (h₂ h₄ : Lent) (R : Report g h i h₂) (S : Report g h₂ j h₄) where
  -- j is put back: then i alone is a reported one
  pub last-back : (code : ℕ) (h₅ : Lent) → Answered h₄ (put_back j) code h₅
      → (code ≡ 0) × (Same g h₂ h₄ j → (h₆ : Lent) → Changed g h₅ h₆ → Report g h i h₆)
  last-back code h₅ E =
      let a = next_call g h₂ (proper_then g h P i h₂ R) j hj h₄ S code h₅ E in (
        a.0,
        λ same h₆ F. record {
          left = R.left;
          accepted = R.accepted;
          changed = changed_then g R.left h₂ h₆ R.changed (changed_then g h₂ h₅ h₆ (a.1.1 same) F);
        },
      )

  -- i is put back: then j alone is
  pub first_back : (code : ℕ) (h₅ : Lent) → Answered h₄ (put_back i) code h₅
      → (code ≡ 0) × (Same g h h₄ i → (h₆ : Lent) → Changed g h₅ h₆ → Report g h j h₆)
  first_back code h₅ E =
      let a = after_another g h P i hi h₂ R j h₄ S code h₅ E in (
        a.1.1.0,
        λ same h₆ F. record { left = a.0; accepted = a.1.0; changed = changed_then g a.0 h₅ h₆ (a.1.1.1.1 same) F },
      )

  -- j had the blocks that it has when it is reported already when i was
  pub same-before : Same g h h₂ j
  same-before x hx =
      let Q = proper_then g h P i h₂ R in
      let sound = sym (ap (λ (r : Shelf). flag_at r j) R.changed.shelf) ∙ (passed h₂ Q.flags Q.bytes j S.left S.accepted).1.0 in
      member_stays g R.left h₂ R.changed j hj sound x hx
      ∙ ap (λ (l : Lent). member_block g l.array j x) (report_is h P.flags P.bytes i R.left R.accepted)

  -- both are put back with their blocks, j first
  pub last_first : (code : ℕ) (h₅ : Lent) → Answered h₄ (put_back j) code h₅ → Same g h₂ h₄ j → (h₆ : Lent) → Changed g h₅ h₆
      → (code' : ℕ) (h₇ : Lent) → Answered h₆ (put_back i) code' h₇ → Same g h h₆ i → (code ≡ 0) × ((code' ≡ 0) × Changed g h h₇)
  last_first code h₅ E same h₆ F code' h₇ G same' =
      let a = last-back code h₅ E in
      let b = next_call g h P i hi h₆ (a.1 same h₆ F) code' h₇ G in
      (a.0, (b.0, b.1.1 same'))

  -- and i first
  pub first_first : (code : ℕ) (h₅ : Lent) → Answered h₄ (put_back i) code h₅ → Same g h h₄ i → (h₆ : Lent) → Changed g h₅ h₆
      → (code' : ℕ) (h₇ : Lent) → Answered h₆ (put_back j) code' h₇ → Same g h₂ h₆ j → (code ≡ 0) × ((code' ≡ 0) × Changed g h h₇)
  first_first code h₅ E same h₆ F code' h₇ G same' =
      let a = first_back code h₅ E in
      let b = next_call g h P j hj h₆ (a.1 same h₆ F) code' h₇ G in
      (a.0, (b.0, b.1.1 (λ x hx. same' x hx ∙ same-before x hx)))
