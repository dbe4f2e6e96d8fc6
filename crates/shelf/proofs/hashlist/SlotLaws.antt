-- The slot of an address without a division: each of the h slots has a share of 2^32, the share is 2^32 / h + 1, and an address times the share,
-- mod 2^32, falls into the share of its slot.
-- Assumes nothing.
use mathlib.Core.Path.{◌≡◌, sym, ap, ◌∙◌}
use Prim.Native.Nat.{ℕ, suc, ◌+◌, ◌*◌, ◌-◌, ◌/◌, ◌%◌, ◌≤◌, ◌<◌}
use native.Mathlib.Nat.{mod-lt, div-add-mod, div-add-mod', div-le_self, mul-add, add-mul, mul_assoc, suc-mul, mul-le-mul, mul-le-mul_left, mul-le-mul_right}
use native.Mathlib.Decide.{dec_lt}
use native.Mathlib.Omega.{arith}

pub share_fits : (h r : ℕ) → r ≡ 4294967296 / h + 1 → r ≤ 4294967297
share_fits h r is = let d : 4294967296 / h ≤ 4294967296 = div-le_self 4294967296 h in omega arith

module _ (h r : ℕ) (hpos : 0 < h) (small : h ≤ 256) (is : r ≡ 4294967296 / h + 1) where
  -- what the h shares have beyond 2^32
  abbrev over : ℕ
  over = h - 4294967296 % h

  shares : h * r ≡ 4294967296 + over
  shares =
      let a : h * (4294967296 / h) + 4294967296 % h ≡ 4294967296 = div-add-mod 4294967296 h in
      let b : 4294967296 % h < h = mod-lt 4294967296 hpos in
      let c : h * r ≡ h * (4294967296 / h) + h * 1 = ap (λ (k : ℕ). h * k) is ∙ mul-add h (4294967296 / h) 1 in
      omega arith

  share_large : 16777216 < r
  share_large =
      elim (dec_lt 16777216 r) [
        | yes l ↦ l
        | no l ↦ let o : r ≤ 16777216 = omega arith in
            let m : h * r ≤ 256 * 16777216 = mul-le-mul small o in
            let s : h * r ≡ 4294967296 + (h - 4294967296 % h) = shares in
            let b : 4294967296 % h < h = mod-lt 4294967296 hpos in
            absurd (omega arith)
      ]

  module _ (a : ℕ) (low : a < 1048576) where
    beyond : a / h * over < 1048576
    beyond =
        let q : a / h * h + a % h ≡ a = div-add-mod' a h in
        let m : a / h * (h - 4294967296 % h) ≤ a / h * h = mul-le-mul_left (a / h) (omega arith) in
        omega arith

    product : a * r ≡ a / h * 4294967296 + (a % h * r + a / h * over)
    product =
        let e1 : a / h * h * r + a % h * r ≡ a * r = sym (add-mul (a / h * h) (a % h) r) ∙ ap (λ (k : ℕ). k * r) (div-add-mod' a h) in
        let e2 : a / h * h * r ≡ a / h * 4294967296 + a / h * over =
        mul_assoc (a / h) h r ∙ ap (λ (k : ℕ). a / h * k) shares ∙ mul-add (a / h) 4294967296 over in
        omega arith

    part_is : a * r % 4294967296 ≡ a % h * r + a / h * over
    part_is =
        let t : a % h < h = mod-lt a hpos in
        let m : suc (a % h) * r ≤ h * r = mul-le-mul_right r t in
        let s : suc (a % h) * r ≡ a % h * r + r = suc-mul (a % h) r in
        let z : h * r ≡ 4294967296 + (h - 4294967296 % h) = shares in
        let y : a / h * (h - 4294967296 % h) < 1048576 = beyond in
        let l : 16777216 < r = share_large in
        let p : a * r ≡ a / h * 4294967296 + (a % h * r + a / h * (h - 4294967296 % h)) = product in
        omega arith

    module _ (i : ℕ) where
      -- within slot i's share
      pub slot_is : i * r ≤ a * r % 4294967296 → a * r % 4294967296 - i * r < r → a % h ≡ i
      slot_is o u =
          let p : a * r % 4294967296 ≡ a % h * r + a / h * (h - 4294967296 % h) = part_is in
          let y : a / h * (h - 4294967296 % h) < 1048576 = beyond in
          let l : 16777216 < r = share_large in
          elim (dec_lt (a % h) i) [
            | yes k ↦ let m : suc (a % h) * r ≤ i * r = mul-le-mul_right r k in
                let s : suc (a % h) * r ≡ a % h * r + r = suc-mul (a % h) r in
                absurd (omega arith)
            | no k ↦ elim (dec_lt i (a % h)) [
              | yes j ↦ let m : suc i * r ≤ a % h * r = mul-le-mul_right r j in
                  let s : suc i * r ≡ i * r + r = suc-mul i r in
                  absurd (omega arith)
              | no j ↦ omega arith
            ]
          ]

      -- below it, and above it
      pub slot_below : a * r % 4294967296 < i * r → a % h ≡ i → ⊥
      slot_below o e =
          let p : a * r % 4294967296 ≡ a % h * r + a / h * (h - 4294967296 % h) = part_is in
          let s : a % h * r ≡ i * r = ap (λ (k : ℕ). k * r) e in
          omega arith

      pub slot_above : r ≤ a * r % 4294967296 - i * r → a % h ≡ i → ⊥
      slot_above o e =
          let p : a * r % 4294967296 ≡ a % h * r + a / h * (h - 4294967296 % h) = part_is in
          let y : a / h * (h - 4294967296 % h) < 1048576 = beyond in
          let l : 16777216 < r = share_large in
          let s : a % h * r ≡ i * r = ap (λ (k : ℕ). k * r) e in
          omega arith
