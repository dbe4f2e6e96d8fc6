-- Laws of the numbers: what an accepted call has passed, and that shelf and book give the same number.
-- Assumes nothing.
use mathlib.Core.Bool.{Bool, true, false, ◌&&◌}
use mathlib.Core.List.{List}
use mathlib.Core.Path.{◌≡◌, refl, ap, ap₂, ◌∙◌}
use Prim.Native.Nat.{ℕ, ◌+◌, ◌*◌, ◌/◌, ◌%◌, ◌≤◌, ◌<◌}
use native.Mathlib.Nat.{div-lt_iff_lt-mul, mul_comm}
use native.Mathlib.Omega.{arith}
use lib.Dec.{eqb, ltb}
use lib.ListN.{length}
use borrow.Author.Tests.{ltb-false, eqb-true, not-false}
use Rattle.shelf.specs.Counting.{count}
use Rattle.shelf.specs.Members.{InRange, array_members, log_member, all_members, member_at, addresses, wanted}
use Rattle.shelf.specs.State.{State, listed, marks_in}
use Rattle.shelf.specs.Status.{Call, start, fail, put_back, write, read, fetch, resync, rebuild, new_log, full_resync, bad_address, bad_data, not_normal, is_normal, array_failed, log_failed, array_sound, log_sound, some_listed, withheld, fetch_withheld, data_withheld, read_failed, row, code_of}
use Rattle.shelf.specs.Calls.{code}
use Rattle.shelf.specs.Book.{Book, book_code}
use Rattle.shelf.specs.declared.record.Geometry.{Geometry}
use Rattle.shelf.proofs.numbers.TableRows.{row_zero, row_ext, blocks_zero, fail_zero, put-back_zero}
use Rattle.shelf.proofs.general.CountLaws.{any_ext, any_none}
use Rattle.shelf.proofs.general.TestLaws.{or_right}
use Rattle.shelf.proofs.agreement.ListedLaws.{marks_in_ext, stale_ext}
use Rattle.shelf.proofs.agreement.Agreement.{Nearly, positive}

-- an address asked for is in a stripe
pub in_stripe : (g : Geometry) → 0 < g.d → (a n : ℕ) → bad_address g a n ≡ false → (j : ℕ) → j < n → (a + j) / g.d < g.s
in_stripe g pos a n e j h =
    let l : a + n ≤ g.d * g.s = ltb-false _ _ (or_right (eqb n 0) (ltb (addresses g) (a + n)) e) in
    let c : g.d * g.s ≡ g.s * g.d = mul_comm g.d g.s in
    (div-lt_iff_lt-mul pos).1 (omega arith)

-- ---- accepted calls

module _ (g : Geometry) (s : State) where
  pub start_passed : code g start s ≡ 0 → (array_failed g s.failed ≡ false) × (log_failed g s.failed ≡ false)
  unfolding code_of
  start_passed z =
      let r7 = row_zero 7 (not_normal s.mode) _ (λ e. omega arith) z in
      let r8 = row_zero 8 (array_failed g s.failed) _ (λ e. omega arith) r7.1 in
      (r8.0, (row_zero 9 (log_failed g s.failed) 0 (λ e. omega arith) r8.1).0)

  pub fail_passed : (j : ℕ) → code g (fail j) s ≡ 0 → (j ≤ log_member g) × ((s.failed j ≡ false) × (count (all_members g) s.failed < g.parities))
  fail_passed j z = fail_zero g s.failed s.mode (listed s.log) j z

  pub put-back_passed : (j : ℕ) → code g (put_back j) s ≡ 0 → (j < array_members g) × (s.failed j ≡ true)
  put-back_passed j z = put-back_zero g s.failed s.mode (listed s.log) j z

  pub write_passed : (a n : ℕ) (v : List ℕ) → code g (write a n v) s ≡ 0 → (length v ≡ n * g.b) × (array_failed g s.failed ≡ false)
  unfolding code_of
  write_passed a n v z =
      let r = blocks_zero g a n (length v) _ z in
      (eqb-true _ _ (not-false (eqb (length v) (n * g.b)) r.1.0), (row_zero 8 (array_failed g s.failed) 0 (λ e. omega arith) r.1.1).0)

  pub read_passed : (a n len : ℕ) → code g (read a n len) s ≡ 0
      → (bad_address g a n ≡ false) × ((j : ℕ) → j < n → wanted g (λ x i. s.failed (member_at g x i)) a j ≡ false)
  unfolding code_of
  read_passed a n len z =
      let r = blocks_zero g a n len _ z in
      (r.0, any_none n _ (row_zero 16 (read_failed g s.failed a n) 0 (λ e. omega arith) r.1.1).0)

  pub fetch_passed : (a n len : ℕ) → code g (fetch a n len) s ≡ 0
      → (bad_address g a n ≡ false) × ((j : ℕ) → j < n → wanted g (withheld g s.failed (listed s.log)) a j ≡ false)
  unfolding code_of
  fetch_passed a n len z =
      let r = blocks_zero g a n len _ z in
      (r.0, any_none n _ (row_zero 14 (fetch_withheld g s.failed (listed s.log) a n) 0 (λ e. omega arith) r.1.1).0)

  pub resync_passed : code g resync s ≡ 0 → array_failed g s.failed ≡ false
  unfolding code_of
  resync_passed z =
      (row_zero 8 (array_failed g s.failed) 0 (λ e. omega arith) (row_zero 7 (is_normal s.mode) _ (λ e. omega arith) z).1).0

  pub rebuild_passed : code g rebuild s ≡ 0 → (x i : ℕ) → x < g.s → i < g.d → withheld g s.failed (listed s.log) x i ≡ false
  unfolding code_of
  rebuild_passed z x i hx hi =
      let r12 = row_zero 12 (array_sound g s.failed) _ (λ e. omega arith) z in
      let r14 = row_zero 14 (data_withheld g s.failed (listed s.log)) 0 (λ e. omega arith) r12.1 in
      any_none g.d (withheld g s.failed (listed s.log) x) (any_none g.s _ r14.0 x hx) i hi

  pub new_log_passed : code g new_log s ≡ 0 → marks_in g (listed s.log) ≡ 0
  unfolding code_of
  new_log_passed z =
      let r12 = row_zero 12 (log_sound g s.failed) _ (λ e. omega arith) z in
      let r13 = row_zero 13 (some_listed g (listed s.log)) 0 (λ e. omega arith) r12.1 in
      omega (arith, ltb-false 0 (marks_in g (listed s.log)) r13.0)

  pub full_resync_passed : code g full_resync s ≡ 0 → array_failed g s.failed ≡ false
  unfolding code_of
  full_resync_passed z = (row_zero 8 (array_failed g s.failed) 0 (λ e. omega arith) z).0

-- ---- shelf and book

-- the numbers by marks that are the same in every stripe
code-marks : (g : Geometry) → 0 < g.d → (f : ℕ → Bool) (mode : ℕ) (m m' : ℕ → ℕ → Bool)
    → ((x i : ℕ) → x < g.s → i < g.d → m x i ≡ m' x i) → (c : Call) → code_of g f mode m c ≡ code_of g f mode m' c
unfolding code_of
code-marks g pos f mode m m' e start = refl
code-marks g pos f mode m m' e (fail j) = refl
code-marks g pos f mode m m' e (put_back j) = refl
code-marks g pos f mode m m' e (write a n v) = refl
code-marks g pos f mode m m' e (read a n len) = refl
code-marks g pos f mode m m' e (fetch a n len) =
    row_ext 4 (bad_address g a n) _ _ (λ t.
    ap (λ (u : Bool). row 5 (bad_data g n len) (row 14 u 0))
    (any_ext n _ _ (λ j h.
    ap (λ (u : Bool). log_failed g f && (f (member_at g ((a + j) / g.d) ((a + j) % g.d)) && u))
    (stale_ext g m m' e ((a + j) / g.d) (in_stripe g pos a n t j h)))))
code-marks g pos f mode m m' e resync = refl
code-marks g pos f mode m m' e rebuild =
    ap (λ (u : Bool). row 12 (array_sound g f) (row 14 u 0))
    (any_ext g.s _ _ (λ x h.
    any_ext g.d _ _ (λ i h'. ap (λ (u : Bool). log_failed g f && (f (member_at g x i) && u)) (stale_ext g m m' e x h))))
code-marks g pos f mode m m' e new_log = ap (λ (u : ℕ). row 12 (log_sound g f) (row 13 (ltb 0 u) 0)) (marks_in_ext g m m' e)
code-marks g pos f mode m m' e full_resync = refl

-- each call gets the number that the book gives
pub nearly_says : (g : Geometry) → InRange g → (s : State) (b : Book) → Nearly g s b → (c : Call) → code g c s ≡ book_code g c b
nearly_says g Y s b A c =
    code-marks g (positive Y) s.failed s.mode (listed s.log) b.state.marks A.marks c
    ∙ ap₂ (λ (f : ℕ → Bool) (x : ℕ). code_of g f x b.state.marks c) A.failed A.mode
