-- The two tables of `src/tables.rt`, and what they hold: each rule is tested once over all entries, by a test that the checker computes,
-- and a lemma carries it to any entry. The tests: entry 0 of the powers is 1 and each next entry is twice the one before it; the power at the
-- logarithm of a is a; the logarithm of power k is k, counted round 255.
-- Assumes nothing.
use mathlib.Core.Bool.{Bool, true}
use mathlib.Core.List.{List}
use mathlib.Core.Path.{◌≡◌, sym, ap, ◌∙◌}
use Prim.Native.Nat.{ℕ, zero, suc, ◌%◌, ◌<◌}
use native.Mathlib.Nat.{not-suc-le-zero, mod-eq_of_lt}
use native.Mathlib.Omega.{arith}
use lib.Dec.{T, eqb, ltb, eqb→eq, ltb→lt}
use lib.ListN.{get_or}
use Rattle.field.specs.declared.tables.TheConstants.{POWERS, LOGARITHMS}
use Rattle.field.specs.Field.{double, pow2, Powers, Logarithms}
use Rattle.field.proofs.Table.{both, both_left, both_right, at}

unfoldable pub powers : List ℕ
powers = POWERS

unfoldable pub logarithms : List ℕ
logarithms = LOGARITHMS

-- ---- the doubling rule

-- what entry k must be, by the entry before it
follows : ℕ → ℕ
follows zero = 1
follows (suc k) = double (get_or powers k 0)

follows_right : ℕ → ℕ → Bool
follows_right k x = eqb x (follows k)

follows_at : (k : ℕ) → k < 256 → get_or powers k 0 ≡ follows k
unfolding powers follows_right follows double
follows_at k h = eqb→eq (get_or powers k 0) (follows k) (at follows_right powers tt k h)

pub powers_hold : Powers powers
unfolding pow2 follows
powers_hold zero h = follows_at 0 h
powers_hold (suc n) h = follows_at (suc n) h ∙ ap double (powers_hold n (omega arith))

-- ---- the tables' mutual inverse

logarithm_right : ℕ → ℕ → Bool
logarithm_right zero x = true
logarithm_right (suc a) x = both (ltb x 255) (eqb (get_or powers x 0) (suc a))

logarithm_test : (a : ℕ) → a < 256 → T (logarithm_right a (get_or logarithms a 0))
unfolding logarithms powers logarithm_right
logarithm_test a h = at logarithm_right logarithms tt a h

logarithm_read : (a x : ℕ) → 0 < a → T (logarithm_right a x) → (x < 255) × (get_or powers x 0 ≡ a)
unfolding logarithm_right
logarithm_read zero x p t = absurd (not-suc-le-zero p)
logarithm_read (suc a) x p t = (
  ltb→lt x 255 (both_left (ltb x 255) (eqb (get_or powers x 0) (suc a)) t),
  eqb→eq (get_or powers x 0) (suc a) (both_right (ltb x 255) (eqb (get_or powers x 0) (suc a)) t),
)

pub logarithms_hold : Logarithms logarithms
logarithms_hold a p h =
    let r = logarithm_read a (get_or logarithms a 0) p (logarithm_test a h) in
    (r.0, sym (powers_hold (get_or logarithms a 0) (omega (arith, r.0))) ∙ r.1)

back_right : ℕ → ℕ → Bool
back_right k x = eqb (get_or logarithms x 0) (k % 255)

back_at : (k : ℕ) → k < 256 → get_or logarithms (get_or powers k 0) 0 ≡ k % 255
unfolding back_right logarithms powers
back_at k h = eqb→eq (get_or logarithms (get_or powers k 0) 0) (k % 255) (at back_right powers tt k h)

pub logarithm_pow2 : (n : ℕ) → n < 255 → get_or logarithms (pow2 n) 0 ≡ n
logarithm_pow2 n h =
    let h' : n < 256 = omega arith in
    ap (λ (x : ℕ). get_or logarithms x 0) (sym (powers_hold n h')) ∙ back_at n h' ∙ mod-eq_of_lt h
