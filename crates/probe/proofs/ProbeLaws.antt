-- Laws of the exports: what one that is not refused may rely on, and the array at exit.
-- Assumes nothing.
use mathlib.Core.Bool.{true, false, not, ◌||◌}
use mathlib.Core.List.{List}
use mathlib.Core.Path.{◌≡◌, sym, ap, ◌∙◌}
use Prim.Native.Nat.{ℕ, ◌+◌, ◌*◌, ◌≤◌}
use native.Mathlib.Nat.{mul-le-mul_right}
use native.Mathlib.Omega.{arith}
use lib.Dec.{eqb, ltb}
use lib.ListN.{length}
use borrow.Author.Tests.{ltb-false, eqb-true, not-false, eq-eqb, ne_eqb}
use Rattle.stripe.specs.Parity.{pick}
use Rattle.stripe.specs.Places.{place, parity_made_all}
use Rattle.probe.specs.Probe.{bad_shape, all_code, all_buffer}
use Rattle.stripe.specs.Calls.{bad_measures}
use Rattle.stripe.proofs.CallLaws.{measures_ok, row_hit, row_pass, row_zero, accepted_done, accepted_kept}
use Rattle.stripe.proofs.Sums.{either_false}

module _ (d k s b : ℕ) (e : bad_shape d k s b ≡ false) where
  pub shape_ok : (bad_measures d k b ≡ false) × ((1 ≤ s) × (s ≤ 65536))
  unfolding bad_shape
  shape_ok =
      let r = either_false (bad_measures d k b) (ltb s 1 || ltb 65536 s) e in
      let ss = either_false (ltb s 1) (ltb 65536 s) r.1 in
      (r.0, (ltb-false s 1 ss.0, ltb-false 65536 s ss.1))

  -- the blocks and the bytes of the array are no large numbers
  pub blocks_fit : (d + k) * s ≤ 1179648
  blocks_fit =
      let ok = measures_ok d k b shape_ok.0 in let roles : d + k ≤ 18 = omega arith in omega (arith, mul-le-mul_right s roles, shape_ok.1.1)

  pub bytes_fit : (d + k) * s * b ≤ 4831838208
  bytes_fit = let ok = measures_ok d k b shape_ok.0 in omega (arith, mul-le-mul_right b blocks_fit, ok.1.1.1.1.1)

module _ (d k s b n : ℕ) where
  pub all_one : bad_shape d k s b ≡ true → 1 ≡ all_code d k s b n
  unfolding all_code
  all_one e = sym (row_hit (bad_shape d k s b) 1 (pick (not (eqb n ((d + k) * s * b))) 2 0) e)

  pub all_two : bad_shape d k s b ≡ false → (n ≡ (d + k) * s * b → ⊥) → 2 ≡ all_code d k s b n
  unfolding all_code
  all_two e ne =
      sym (row_pass (bad_shape d k s b) 1 (pick (not (eqb n ((d + k) * s * b))) 2 0) e ∙ row_hit (not (eqb n ((d + k) * s * b))) 2 0 (ap not (ne_eqb n ((d + k) * s * b) ne)))

  pub all_zero : bad_shape d k s b ≡ false → n ≡ (d + k) * s * b → 0 ≡ all_code d k s b n
  unfolding all_code
  all_zero e f =
      sym (row_pass (bad_shape d k s b) 1 (pick (not (eqb n ((d + k) * s * b))) 2 0) e ∙ row_pass (not (eqb n ((d + k) * s * b))) 2 0 (ap not (eq-eqb n ((d + k) * s * b) f)))

  -- what making parity asks for
  pub all-measures : 0 ≡ all_code d k s b n → (2 ≤ d) × ((d ≤ 16) × ((1 ≤ k) × ((k ≤ 2) × ((s ≤ 65536) × ((1 ≤ b) × ((b ≤ 4096) × (n ≡ (d + k) * s * b)))))))
  unfolding all_code
  all-measures e =
      let one = row_zero (bad_shape d k s b) 0 (pick (not (eqb n ((d + k) * s * b))) 2 0) (sym e) in
      let two = row_zero (not (eqb n ((d + k) * s * b))) 1 0 one.1 in
      let shape = shape_ok d k s b one.0 in
      let ok = measures_ok d k b shape.0 in
      (ok.0, (ok.1.0, (ok.1.1.0, (ok.1.1.1.0, (shape.1.1, (ok.1.1.1.1.0, (ok.1.1.1.1.1, eqb-true n ((d + k) * s * b) (not-false (eqb n ((d + k) * s * b)) two.0))))))))

pub all_done : (d k s b : ℕ) (l n : List ℕ) → 0 ≡ all_code d k s b (length l) → n ≡ parity_made_all s (place 0 d k s) d k b l → n ≡ all_buffer d k s b l
unfolding all_buffer
all_done d k s b l n e en = en ∙ sym (accepted_done (all_code d k s b (length l)) (parity_made_all s (place 0 d k s) d k b l) l (sym e))

pub all-kept : (d k s b code : ℕ) (l : List ℕ) → (code ≡ 0 → ⊥) → code ≡ all_code d k s b (length l) → l ≡ all_buffer d k s b l
unfolding all_buffer
all-kept d k s b code l ne e = sym (accepted_kept (all_code d k s b (length l)) (parity_made_all s (place 0 d k s) d k b l) l (λ z. ne (e ∙ z)))
