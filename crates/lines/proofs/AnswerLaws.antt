-- Laws of lines that are written: numbers in decimal, which can be read back, and text put together in a buffer.
-- Assumes nothing.
use mathlib.Core.Bool.{Bool, true, false}
use mathlib.Core.List.{List, [], ◌∷◌, ◌++◌, append_assoc, append-nil}
use mathlib.Core.Path.{◌≡◌, refl, sym, ap, ap₂, ◌∙◌, subst}
use Prim.Native.Nat.{ℕ, zero, suc, ◌+◌, ◌*◌, ◌-◌, ◌/◌, ◌%◌, ◌^◌, ◌≤◌, ◌<◌}
use native.Mathlib.Nat.{mul_assoc, mul-one, add-zero, pow-zero, pow-suc, pow-succ'}
use native.Mathlib.Numerals.{add-one}
use native.Mathlib.Decide.{dec_lt}
use native.Mathlib.Omega.{arith}
use lib.ListN.{length, take, drop, get_or, set, length-append, length-drop, take-append-drop}
use lib.Seq.{set_split, length-take-le, take_at, drop_at, drop-drop, take-suc}
use borrow.Author.Tests.{lt-ltb, le-ltb, le-leb}
use Rattle.lines.specs.Fields.{is_digit, all_digits, number_of, limit, is_value}
use Rattle.lines.specs.AnswerLines.{digits, decimal, spelled}
use Rattle.lines.specs.Walking.{Puts}
use Rattle.lines.proofs.TestLaws.{and_left, and_right}

-- ---- numbers in decimal

digits-few : (k n : ℕ) → n < 10 → digits k n ≡ (48 + n) ∷ []
unfolding digits
digits-few zero n h = ap (λ (m : ℕ). (48 + m) ∷ []) (omega arith)
digits-few (suc k) n h =
    ap (λ (t : Bool). elim t as (λ _. List ℕ) [ true ↦ (48 + n) ∷ [] | false ↦ digits k (n / 10) ++ ((48 + n % 10) ∷ []) ]) (lt-ltb n 10 h)

digits_more : (k n : ℕ) → 10 ≤ n → digits (suc k) n ≡ digits k (n / 10) ++ ((48 + n % 10) ∷ [])
unfolding digits
digits_more k n h =
    ap (λ (t : Bool). elim t as (λ _. List ℕ) [ true ↦ (48 + n) ∷ [] | false ↦ digits k (n / 10) ++ ((48 + n % 10) ∷ []) ]) (le-ltb n 10 h)

-- where n digits more than one are enough, any number above is
enough : (k j n : ℕ) → n ≤ k → n ≤ j → digits k n ≡ digits j n
enough zero j n p q = digits-few zero n (omega arith) ∙ sym (digits-few j n (omega arith))
enough (suc k) zero n p q = digits-few (suc k) n (omega arith) ∙ sym (digits-few zero n (omega arith))
enough (suc k) (suc j) n p q =
    elim (dec_lt n 10) [
      | yes l ↦ digits-few (suc k) n l ∙ sym (digits-few (suc j) n l)
      | no m ↦
          digits_more k n (omega arith) ∙ ap (λ (ds : List ℕ). ds ++ ((48 + n % 10) ∷ [])) (enough k j (n / 10) (omega arith) (omega arith))
          ∙ sym (digits_more j n (omega arith))
    ]

pub decimal_few : (n : ℕ) → n < 10 → decimal n ≡ (48 + n) ∷ []
unfolding decimal
decimal_few n h = digits-few n n h

pub decimal_more : (n : ℕ) → 10 ≤ n → decimal n ≡ decimal (n / 10) ++ ((48 + n % 10) ∷ [])
unfolding decimal
decimal_more n h =
    let s : n ≡ suc (n - 1) = omega arith in
    ap (λ (k : ℕ). digits k n) s ∙ digits_more (n - 1) n h
    ∙ ap (λ (ds : List ℕ). ds ++ ((48 + n % 10) ∷ [])) (enough (n - 1) (n / 10) (n / 10) (omega arith) (omega arith))

pub decimal_one : (n : ℕ) → n < 10 → length (decimal n) ≡ 1
decimal_one n h = ap (λ (l : List ℕ). length l) (decimal_few n h)

pub decimal_longer : (n : ℕ) → 10 ≤ n → length (decimal n) ≡ length (decimal (n / 10)) + 1
decimal_longer n h = ap (λ (l : List ℕ). length l) (decimal_more n h) ∙ length-append (decimal (n / 10)) ((48 + n % 10) ∷ [])

-- a number below 10 to the power k takes k digits at most
pub decimal_short : (k n : ℕ) → n < 10 ^ suc k → length (decimal n) ≤ suc k
decimal_short zero n h = omega (arith, decimal_one n (omega arith))
decimal_short (suc k) n h =
    elim (dec_lt n 10) [
      | yes l ↦ omega (arith, decimal_one n l)
      | no m ↦
          let p : n < 10 * 10 ^ suc k = rw (pow-succ' 10 (suc k)) at h in
          let r : length (decimal (n / 10)) ≤ suc k = decimal_short k (n / 10) (omega arith) in
          omega (arith, decimal_longer n (omega arith))
    ]

number_last : (xs : List ℕ) (x : ℕ) → number_of (xs ++ (x ∷ [])) ≡ number_of xs * 10 + (x - 48)
unfolding number_of
number_last [] x = simp (pow-zero, mul-one, add-zero) (omega arith)
number_last (y ∷ ys) x =
    let p : ℕ = 10 ^ length ys in
    let l : length (ys ++ (x ∷ [])) ≡ suc (length ys) = length-append ys (x ∷ []) ∙ omega arith in
    let a : (y - 48) * 10 ^ length (ys ++ (x ∷ [])) ≡ (y - 48) * p * 10 =
    ap (λ (k : ℕ). (y - 48) * 10 ^ k) l ∙ ap (λ (k : ℕ). (y - 48) * k) (pow-suc 10 (length ys)) ∙ sym (mul_assoc (y - 48) p 10) in
    let r : number_of (ys ++ (x ∷ [])) ≡ number_of ys * 10 + (x - 48) = number_last ys x in
    omega (arith, a, r)

digits_last : (xs : List ℕ) (x : ℕ) → all_digits xs ≡ true → is_digit x ≡ true → all_digits (xs ++ (x ∷ [])) ≡ true
unfolding all_digits
digits_last [] x a d = simp d
digits_last (y ∷ ys) x a d = simp (and_left (is_digit y) (all_digits ys) a, digits_last ys x (and_right (is_digit y) (all_digits ys) a) d)

digit_is : (n : ℕ) → n < 10 → is_digit (48 + n) ≡ true
unfolding is_digit
digit_is n h = simp (le-leb 48 (48 + n) (omega arith), le-leb (48 + n) 57 (omega arith))

-- what is printed is digits, at least one, and tells the number
told : (k n : ℕ) → n ≤ k → (all_digits (digits k n) ≡ true) × ((0 < length (digits k n)) × (number_of (digits k n) ≡ n))
unfolding number_of all_digits
told zero n h =
    let z : n < 10 = omega arith in
    rw (digits-few zero n z) (simp (digit_is n z), (omega arith, simp (pow-zero, mul-one, add-zero) (omega arith)))
told (suc k) n h =
    elim (dec_lt n 10) [
      | yes z ↦ rw (digits-few (suc k) n z) (simp (digit_is n z), (omega arith, simp (pow-zero, mul-one, add-zero) (omega arith)))
      | no m ↦
          let r : (all_digits (digits k (n / 10)) ≡ true) × ((0 < length (digits k (n / 10))) × (number_of (digits k (n / 10)) ≡ n / 10)) =
          told k (n / 10) (omega arith) in
          rw (digits_more k n (omega arith)) (
            digits_last (digits k (n / 10)) (48 + n % 10) r.0 (digit_is (n % 10) (omega arith)),
            (rw length-append (omega arith), number_last (digits k (n / 10)) (48 + n % 10) ∙ omega (arith, r.1.1)),
          )
    ]

-- a number that is printed is read as that number
pub read_back : (n : ℕ) → n < limit → (is_value (decimal n) ≡ true) × (number_of (decimal n) ≡ n)
unfolding decimal is_value
read_back n h =
    let r = told n n (omega arith) in
    (simp (lt-ltb 0 (length (digits n n)) r.1.0, r.0, r.1.1, lt-ltb n limit h), r.1.1)

-- ---- text put together

pub puts_none : (out : List ℕ) (at : ℕ) → Puts out at [] out at
puts_none out at = record { ends = omega arith; holds = sym (take-append-drop at out) }

pub puts_byte : (out : List ℕ) (at x : ℕ) → at < length out → Puts out at (x ∷ []) (set out at x) (at + 1)
puts_byte out at x h = record { ends = refl; holds = rw (add-one at) (set_split out at x h) }

-- the same text, told otherwise
pub puts_text : {out fin xs ys : List ℕ} {at e : ℕ} → xs ≡ ys → Puts out at xs fin e → Puts out at ys fin e
puts_text {out} {fin} {xs} {ys} {at} {e} t p = subst (λ (l : List ℕ). Puts out at l fin e) t p

-- one text after another
pub puts_then : {out mid fin xs ys : List ℕ} {at m e : ℕ} → at ≤ length out → Puts out at xs mid m → Puts mid m ys fin e → Puts out at (xs ++ ys) fin e
puts_then {out} {mid} {fin} {xs} {ys} {at} {m} {e} h p q =
    let k : length (take at out ++ xs) ≡ m = length-append (take at out) xs ∙ rw (length-take-le at out h) (sym p.ends) in
    let front : take m mid ≡ take at out ++ xs =
    ap (take m) (p.holds ∙ sym (append_assoc (take at out) xs (drop m out))) ∙ take_at (take at out ++ xs) (drop m out) m k in
    let whole : drop m mid ≡ drop m out =
    ap (drop m) (p.holds ∙ sym (append_assoc (take at out) xs (drop m out))) ∙ drop_at (take at out ++ xs) (drop m out) m k in
    let back : drop e mid ≡ drop e out =
    ap (λ (n : ℕ). drop n mid) q.ends ∙ sym (drop-drop (length ys) m mid) ∙ ap (drop (length ys)) whole ∙ drop-drop (length ys) m out
    ∙ ap (λ (n : ℕ). drop n out) (sym q.ends) in
    record {
      ends = rw length-append (omega (arith, p.ends, q.ends));
      holds = q.holds ∙ ap₂ (λ (a b : List ℕ). a ++ (ys ++ b)) front back ∙ simp append_assoc;
    }

-- ---- numbers in a line

-- numbers in decimal, a blank before each
unfoldable pub blanked : List ℕ → List ℕ
blanked [] = []
blanked (n ∷ ns) = 32 ∷ (decimal n ++ blanked ns)

pub spelled_blanked : (ns : List ℕ) → blanked ns ++ (10 ∷ []) ≡ spelled ns
unfolding blanked spelled
spelled_blanked [] = refl
spelled_blanked (n ∷ ns) = ap (λ (l : List ℕ). 32 ∷ l) (append_assoc (decimal n) (blanked ns) (10 ∷ []) ∙ ap (λ (l : List ℕ). decimal n ++ l) (spelled_blanked ns))

blanked_last : (ns : List ℕ) (n : ℕ) → blanked (ns ++ (n ∷ [])) ≡ blanked ns ++ (32 ∷ decimal n)
unfolding blanked
blanked_last [] n = ap (λ (l : List ℕ). 32 ∷ l) (append-nil (decimal n))
blanked_last (m ∷ ns) n =
    ap (λ (l : List ℕ). 32 ∷ l) (ap (λ (l : List ℕ). decimal m ++ l) (blanked_last ns n) ∙ sym (append_assoc (decimal m) (blanked ns) (32 ∷ decimal n)))

-- one number more
pub blanked_more : (ns : List ℕ) (i : ℕ) → i < length ns → blanked (take i ns) ++ (32 ∷ decimal (get_or ns i 0)) ≡ blanked (take (i + 1) ns)
blanked_more ns i h = rw (add-one i, take-suc ns i 0 h) (sym (blanked_last (take i ns) (get_or ns i 0)))

-- one byte more
pub word_more : (w : List ℕ) (i : ℕ) → i < length w → take i w ++ (get_or w i 0 ∷ []) ≡ take (i + 1) w
word_more w i h = rw (add-one i) (sym (take-suc w i 0 h))

-- text put at the start of a buffer fits in it
pub puts_within : {out text fin : List ℕ} {e : ℕ} → Puts out 0 text fin e → length fin ≡ length out → e ≤ length out
puts_within {out} {text} {fin} {e} p l =
    let n : length fin ≡ length text + (length out - e) =
    ap (λ (xs : List ℕ). length xs) p.holds ∙ length-append text (drop e out) ∙ ap (λ (k : ℕ). length text + k) (length-drop e out) in
    omega (arith, p.ends)

-- and stands at the start of the buffer
pub puts_front : {out text fin : List ℕ} {e : ℕ} → Puts out 0 text fin e → take e fin ≡ text
puts_front {out} {text} {fin} {e} p = ap (take e) p.holds ∙ take_at text (drop e out) e (let q = p.ends in omega arith)
