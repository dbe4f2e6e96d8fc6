-- Laws of what is kept of a text: it grows by the bytes that come, says what the text says, and is short where the text can be read.
-- Assumes nothing.
use mathlib.Core.Bool.{Bool, true, false, cond, ◌&&◌, and_assoc, and_comm, false≢true}
use mathlib.Core.List.{List, [], ◌∷◌, ◌++◌, map, drop_last}
use mathlib.Core.Logic.{⊎_elim}
use mathlib.Core.Path.{◌≡◌, refl, sym, ap, ◌∙◌}
use Prim.Native.Nat.{ℕ, suc, ◌+◌, ◌*◌, ◌-◌, ◌^◌, ◌≤◌, ◌<◌}
use native.Mathlib.Nat.{pow-le-pow_right, mul-le-mul_right, zero-mul, zero-add}
use native.Mathlib.Decide.{dec_lt}
use native.Mathlib.Omega.{arith}
use lib.Dec.{eqb, ltb}
use lib.ListN.{length, drop, length-map, get_or-map}
use borrow.Author.Tests.{lt-ltb, eq-eqb, ne_eqb, eqb-true, ltb-true}
use Rattle.lines.specs.Names.{same, start_name, write_name, read_name, fetch_name, fail_name, resync_name, rebuild_name, new_log_name, full_name}
use Rattle.lines.specs.Fields.{begun, fields, nth, is_digit, all_digits, number_of, limit, is_value, all_values}
use Rattle.lines.specs.RequestLines.{named, request_of, request_line}
use Rattle.lines.specs.MeasureLines.{measures_of, measures_line}
use Rattle.lines.specs.Held.{on_digit, drops, kept_from, kept, last_zero, room}
use Rattle.std.specs.Prelude.{None}
use Rattle.lines.proofs.TestLaws.{and_left, and_right, and_false, either_way}
use Rattle.lines.proofs.NameLaws.{same-lengths}
use Rattle.lines.proofs.FieldLaws.{grown, begun_grown, fields_full, digit_range}

-- ---- what is kept, by the first byte

-- a zero that is dropped
kept-drop : (s : Bool) (x : ℕ) (t : List ℕ) → drops s x t ≡ true → kept_from s (x ∷ t) ≡ kept_from true t
unfolding kept_from
kept-drop s x t e = ap (λ (b : Bool). elim b as (λ _. List ℕ) [ true ↦ kept_from true t | false ↦ x ∷ kept_from (eqb x 32) t ]) e

-- any other byte
kept_byte : (s : Bool) (x : ℕ) (t : List ℕ) → drops s x t ≡ false → kept_from s (x ∷ t) ≡ x ∷ kept_from (eqb x 32) t
unfolding kept_from
kept_byte s x t e = ap (λ (b : Bool). elim b as (λ _. List ℕ) [ true ↦ kept_from true t | false ↦ x ∷ kept_from (eqb x 32) t ]) e

-- a byte alone
kept-one : (s : Bool) (x : ℕ) → kept_from s (x ∷ []) ≡ x ∷ []
unfolding kept_from on_digit
kept-one s x = kept_byte s x [] (simp (and_false, and_false))

-- of a byte or more, a byte or more is kept
kept-some : (s : Bool) (x : ℕ) (t : List ℕ) → 0 < length (kept_from s (x ∷ t))
kept-some s x [] = rw (kept-one s x) (omega arith)
kept-some s x (y ∷ t) =
    let more : 0 < length (kept_from true (y ∷ t)) = kept-some true y t in
    ⊎_elim
    (λ (e : drops s x (y ∷ t) ≡ true). rw (kept-drop s x (y ∷ t) e) more)
    (λ (e : drops s x (y ∷ t) ≡ false). rw (kept_byte s x (y ∷ t) e) (omega arith))
    (either_way (drops s x (y ∷ t)))

pub empty_kept : length (kept []) ≡ 0
unfolding kept kept_from
empty_kept = refl

pub some-kept : (x : ℕ) (t : List ℕ) → 0 < length (kept (x ∷ t))
unfolding kept
some-kept x t = kept-some true x t

-- ---- what is kept, by the last byte

-- x behind what is kept, or in the place of its last byte
unfoldable pub next : Bool → List ℕ → ℕ → List ℕ
next s k x = cond (is_digit x && last_zero s k) (drop_last k ++ (x ∷ [])) (k ++ (x ∷ []))

cond_cons : (b : Bool) (y : ℕ) (p q : List ℕ) → cond b (y ∷ p) (y ∷ q) ≡ y ∷ cond b p q
cond_cons true y p q = refl
cond_cons false y p q = refl

next_cons : (s : Bool) (y x : ℕ) (k : List ℕ) → 0 < length k → next s (y ∷ k) x ≡ y ∷ next (eqb y 32) k x
unfolding next last_zero
next_cons s y x [] h = absurd (omega arith)
next_cons s y x (z ∷ k) h = cond_cons (is_digit x && last_zero (eqb y 32) (z ∷ k)) y (drop_last (z ∷ k) ++ (x ∷ [])) ((z ∷ k) ++ (x ∷ []))

next_one : (s : Bool) (y x : ℕ) → kept_from s (y ∷ x ∷ []) ≡ next s (y ∷ []) x
unfolding next last_zero on_digit
next_one s y x =
    let turned : (is_digit x && (s && eqb y 48)) ≡ drops s y (x ∷ []) = and_comm (is_digit x) (s && eqb y 48) ∙ and_assoc s (eqb y 48) (is_digit x) in
    ⊎_elim
    (λ (e : drops s y (x ∷ []) ≡ true). kept-drop s y (x ∷ []) e ∙ kept-one true x ∙ sym (simp (turned ∙ e)))
    (λ (e : drops s y (x ∷ []) ≡ false). kept_byte s y (x ∷ []) e ∙ ap (λ (k : List ℕ). y ∷ k) (kept-one (eqb y 32) x) ∙ sym (simp (turned ∙ e)))
    (either_way (drops s y (x ∷ [])))

-- what is kept of a text with x behind it
kept_next : (s : Bool) (t : List ℕ) (x : ℕ) → kept_from s (t ++ (x ∷ [])) ≡ next s (kept_from s t) x
unfolding kept_from next last_zero on_digit
kept_next s [] x = kept-one s x ∙ sym (simp and_false)
kept_next s (y ∷ []) x = next_one s y x ∙ ap (λ (k : List ℕ). next s k x) (sym (kept-one s y))
kept_next s (y ∷ z ∷ t) x =
    let dropped : kept_from true ((z ∷ t) ++ (x ∷ [])) ≡ next true (kept_from true (z ∷ t)) x = kept_next true (z ∷ t) x in
    let stays : kept_from (eqb y 32) ((z ∷ t) ++ (x ∷ [])) ≡ next (eqb y 32) (kept_from (eqb y 32) (z ∷ t)) x = kept_next (eqb y 32) (z ∷ t) x in
    ⊎_elim
    (λ (e : drops s y (z ∷ t) ≡ true).
    kept-drop s y (z ∷ (t ++ (x ∷ []))) e ∙ dropped
    ∙ ap (λ (b : Bool). next b (kept_from true (z ∷ t)) x) (sym (and_left s _ e)) ∙ ap (λ (k : List ℕ). next s k x) (sym (kept-drop s y (z ∷ t) e)))
    (λ (e : drops s y (z ∷ t) ≡ false).
    kept_byte s y (z ∷ (t ++ (x ∷ []))) e ∙ ap (λ (k : List ℕ). y ∷ k) stays
    ∙ sym (next_cons s y x (kept_from (eqb y 32) (z ∷ t)) (kept-some (eqb y 32) z t)) ∙ ap (λ (k : List ℕ). next s k x) (sym (kept_byte s y (z ∷ t) e)))
    (either_way (drops s y (z ∷ t)))

pub kept_more : (t : List ℕ) (x : ℕ) → kept (t ++ (x ∷ [])) ≡ next true (kept t) x
unfolding kept
kept_more t x = kept_next true t x

-- which does not get shorter
pub next_longer : (s : Bool) (k : List ℕ) (x : ℕ) → length k ≤ length (next s k x)
unfolding next last_zero
next_longer s [] x = omega arith
next_longer s (y ∷ []) x =
    ⊎_elim
    (λ (e : (is_digit x && (s && eqb y 48)) ≡ true). simp e (omega arith))
    (λ (e : (is_digit x && (s && eqb y 48)) ≡ false). simp e (omega arith))
    (either_way (is_digit x && (s && eqb y 48)))
next_longer s (y ∷ z ∷ k) x =
    let rest : length (z ∷ k) ≤ length (next (eqb y 32) (z ∷ k) x) = next_longer (eqb y 32) (z ∷ k) x in
    rw (next_cons s y x (z ∷ k) (omega arith)) (omega arith)

-- ---- fields of what is kept

-- a field without the zeros at its start that a digit follows
trimmed : List ℕ → List ℕ
trimmed [] = []
trimmed (x ∷ f) = cond (eqb x 48 && on_digit f) (trimmed f) (x ∷ f)

-- the fields of what is kept, out of those of the text, by whether the text begins at the start of a field
trim_from : Bool → List (List ℕ) → List (List ℕ)
trim_from true fs = map trimmed fs
trim_from false fs = nth fs 0 ∷ map trimmed (drop 1 fs)

-- the fields of a text, by its first byte
fields-blank : (x : ℕ) (t : List ℕ) → eqb x 32 ≡ true → fields (x ∷ t) ≡ [] ∷ fields t
unfolding fields begun
fields-blank x t e = simp e

fields_byte : (x : ℕ) (t : List ℕ) → eqb x 32 ≡ false → fields (x ∷ t) ≡ (x ∷ nth (fields t) 0) ∷ drop 1 (fields t)
unfolding fields grown
fields_byte x t e = simp e (begun_grown x (fields t))

fields-some : (t : List ℕ) → fields t ≡ nth (fields t) 0 ∷ drop 1 (fields t)
unfolding grown
fields-some t = sym (fields_full t)

-- the first field begins with a digit where the text does
digit_first : (t : List ℕ) → on_digit (nth (fields t) 0) ≡ on_digit t
unfolding fields on_digit is_digit
digit_first [] = refl
digit_first (x ∷ t) =
    ⊎_elim
    (λ (e : eqb x 32 ≡ true). rw (fields-blank x t e) (sym (ap is_digit (eqb-true x 32 e))))
    (λ (e : eqb x 32 ≡ false). rw (fields_byte x t e) refl)
    (either_way (eqb x 32))

trim_blank : (s : Bool) (fs : List (List ℕ)) → trim_from s ([] ∷ fs) ≡ [] ∷ map trimmed fs
unfolding trim_from trimmed
trim_blank true fs = refl
trim_blank false fs = refl

trim_byte : (s : Bool) (x : ℕ) (f : List ℕ) (fs : List (List ℕ)) → drops s x f ≡ false → trim_from s ((x ∷ f) ∷ fs) ≡ (x ∷ f) ∷ map trimmed fs
unfolding trim_from trimmed
trim_byte true x f fs e = simp e
trim_byte false x f fs e = refl

trim_drop : (s : Bool) (x : ℕ) (f : List ℕ) (fs : List (List ℕ)) → drops s x f ≡ true → trim_from s ((x ∷ f) ∷ fs) ≡ map trimmed (f ∷ fs)
unfolding trim_from trimmed
trim_drop true x f fs e = simp e
trim_drop false x f fs e = absurd (false≢true e)

-- one byte more in front of a text
module _ (s : Bool) (x : ℕ) (t : List ℕ) where
  kept-fields-drop : fields (kept_from true t) ≡ map trimmed (fields t) → drops s x t ≡ true
      → fields (kept_from s (x ∷ t)) ≡ trim_from s (fields (x ∷ t))
  kept-fields-drop h e =
      let zero-byte : eqb x 32 ≡ false = ap (λ (y : ℕ). eqb y 32) (eqb-true x 48 (and_left (eqb x 48) (on_digit t) (and_right s _ e))) in
      let on : drops s x (nth (fields t) 0) ≡ true = rw (digit_first t) e in
      ap fields (kept-drop s x t e) ∙ h ∙ ap (map trimmed) (fields-some t)
      ∙ sym (ap (trim_from s) (fields_byte x t zero-byte) ∙ trim_drop s x (nth (fields t) 0) (drop 1 (fields t)) on)

  kept-fields-blank : fields (kept_from true t) ≡ map trimmed (fields t) → drops s x t ≡ false → eqb x 32 ≡ true
      → fields (kept_from s (x ∷ t)) ≡ trim_from s (fields (x ∷ t))
  kept-fields-blank h e b =
      ap fields (kept_byte s x t e ∙ ap (λ (a : Bool). x ∷ kept_from a t) b) ∙ fields-blank x (kept_from true t) b ∙ ap (λ (fs : List (List ℕ)). [] ∷ fs) h
      ∙ sym (ap (trim_from s) (fields-blank x t b) ∙ trim_blank s (fields t))

  kept-fields_byte : fields (kept_from false t) ≡ nth (fields t) 0 ∷ map trimmed (drop 1 (fields t)) → drops s x t ≡ false → eqb x 32 ≡ false
      → fields (kept_from s (x ∷ t)) ≡ trim_from s (fields (x ∷ t))
  kept-fields_byte h e b =
      let off : drops s x (nth (fields t) 0) ≡ false = rw (digit_first t) e in
      ap fields (kept_byte s x t e ∙ ap (λ (a : Bool). x ∷ kept_from a t) b) ∙ fields_byte x (kept_from false t) b
      ∙ ap (λ (fs : List (List ℕ)). (x ∷ nth fs 0) ∷ drop 1 fs) h
      ∙ sym (ap (trim_from s) (fields_byte x t b) ∙ trim_byte s x (nth (fields t) 0) (drop 1 (fields t)) off)

-- the fields of what is kept
kept-fields : (s : Bool) (t : List ℕ) → fields (kept_from s t) ≡ trim_from s (fields t)
unfolding kept_from fields trim_from trimmed
kept-fields true [] = refl
kept-fields false [] = refl
kept-fields s (x ∷ t) =
    let anew : fields (kept_from true t) ≡ map trimmed (fields t) = kept-fields true t in
    let within : fields (kept_from false t) ≡ nth (fields t) 0 ∷ map trimmed (drop 1 (fields t)) = kept-fields false t in
    ⊎_elim
    (λ (e : drops s x t ≡ true). kept-fields-drop s x t anew e)
    (λ (e : drops s x t ≡ false).
    ⊎_elim (λ (b : eqb x 32 ≡ true). kept-fields-blank s x t anew e b) (λ (b : eqb x 32 ≡ false). kept-fields_byte s x t within e b) (either_way (eqb x 32)))
    (either_way (drops s x t))

-- what is kept has the fields of the text, each trimmed
kept_trimmed : (t : List ℕ) → fields (kept t) ≡ map trimmed (fields t)
unfolding kept trim_from
kept_trimmed t = kept-fields true t

-- ---- a field trimmed

-- what is the same of a field with a zero in front of a digit is the same of a field trimmed
trim_same : {A : Type 0} (q : List ℕ → A) → ((f : List ℕ) → on_digit f ≡ true → q (48 ∷ f) ≡ q f) → (f : List ℕ) → q (trimmed f) ≡ q f
unfolding trimmed
trim_same q step [] = refl
trim_same q step (x ∷ f) =
    let rest : q (trimmed f) ≡ q f = trim_same q step f in
    ⊎_elim
    (λ (e : (eqb x 48 && on_digit f) ≡ true).
    simp e (rest ∙ sym (step f (and_right (eqb x 48) (on_digit f) e)) ∙ ap (λ (y : ℕ). q (y ∷ f)) (sym (eqb-true x 48 (and_left (eqb x 48) (on_digit f) e)))))
    (λ (e : (eqb x 48 && on_digit f) ≡ false). simp e)
    (either_way (eqb x 48 && on_digit f))

number_zero : (f : List ℕ) → number_of (48 ∷ f) ≡ number_of f
unfolding number_of
number_zero f = simp (zero-mul, zero-add)

value_zero : (f : List ℕ) → on_digit f ≡ true → is_value (48 ∷ f) ≡ is_value f
unfolding is_value all_digits on_digit is_digit
value_zero [] d = absurd (false≢true d)
value_zero (x ∷ f) d = simp (number_zero, lt-ltb 0 (suc (length f)) (omega arith), lt-ltb 0 (suc (suc (length f))) (omega arith))

trim_number : (f : List ℕ) → number_of (trimmed f) ≡ number_of f
trim_number = trim_same number_of (λ f d. number_zero f)

trim_value : (f : List ℕ) → is_value (trimmed f) ≡ is_value f
trim_value = trim_same is_value value_zero

trim_values : (fs : List (List ℕ)) → all_values (map trimmed fs) ≡ all_values fs
unfolding all_values
trim_values [] = refl
trim_values (f ∷ fs) = simp (trim_value f, trim_values fs)

-- what begins with a digit is no name that does not
same_digit : (f w : List ℕ) → on_digit f ≡ true → on_digit w ≡ false → same f w ≡ false
unfolding same on_digit
same_digit [] w d n = absurd (false≢true d)
same_digit (x ∷ f) [] d n = refl
same_digit (x ∷ f) (y ∷ w) d n = simp (ne_eqb x y (λ e. false≢true (sym n ∙ ap is_digit (sym e) ∙ d)))

-- what is none of the nine names can't be read
named_none : (f : List ℕ) (a b c : ℕ) → ((w : List ℕ) → on_digit w ≡ false → length w ≤ 7 → same f w ≡ false) → named f a b c ≡ None
unfolding named on_digit is_digit
named_none f a b c none =
    simp (
      none start_name refl (omega arith),
      none write_name refl (omega arith),
      none read_name refl (omega arith),
      none fetch_name refl (omega arith),
      none fail_name refl (omega arith),
      none resync_name refl (omega arith),
      none rebuild_name refl (omega arith),
      none new_log_name refl (omega arith),
      none full_name refl (omega arith),
    )

-- as what begins with a digit, and what has more than seven bytes
named_digit : (f : List ℕ) (a b c : ℕ) → on_digit f ≡ true → named f a b c ≡ None
named_digit f a b c d = named_none f a b c (λ w n l. same_digit f w d n)

named-long : (f : List ℕ) (a b c : ℕ) → 7 < length f → named f a b c ≡ None
named-long f a b c h = named_none f a b c (λ w n l. same-lengths f w (λ e. omega arith))

trim_named : (f : List ℕ) (a b c : ℕ) → named (trimmed f) a b c ≡ named f a b c
unfolding on_digit is_digit
trim_named f a b c = trim_same (λ (g : List ℕ). named g a b c) (λ g d. named_digit (48 ∷ g) a b c refl ∙ sym (named_digit g a b c d)) f

-- ---- what lines say

trim_nth : (fs : List (List ℕ)) (k : ℕ) → nth (map trimmed fs) k ≡ trimmed (nth fs k)
unfolding trimmed
trim_nth fs k = get_or-map trimmed fs k []

trim_rest : (fs : List (List ℕ)) → drop 1 (map trimmed fs) ≡ map trimmed (drop 1 fs)
trim_rest [] = refl
trim_rest (f ∷ fs) = refl

trim_request : (fs : List (List ℕ)) → request_of (map trimmed fs) ≡ request_of fs
unfolding request_of
trim_request fs = simp (length-map fs trimmed, trim_rest fs, trim_values (drop 1 fs), trim_nth fs 0, trim_nth fs 1, trim_nth fs 2, trim_nth fs 3, trim_number, trim_named)

trim_measures : (fs : List (List ℕ)) → measures_of (map trimmed fs) ≡ measures_of fs
unfolding measures_of
trim_measures fs =
    simp
    (length-map fs trimmed, trim_values fs, trim_nth fs 0, trim_nth fs 1, trim_nth fs 2, trim_nth fs 3, trim_nth fs 4, trim_nth fs 5, trim_number)

-- what is kept of a line says what the line says
pub kept_request : (t : List ℕ) → request_line (kept t) ≡ request_line t
unfolding request_line
kept_request t = ap request_of (kept_trimmed t) ∙ trim_request (fields t)

pub kept-measures : (t : List ℕ) → measures_line (kept t) ≡ measures_line t
unfolding measures_line
kept-measures t = ap measures_of (kept_trimmed t) ∙ trim_measures (fields t)

-- ---- how long a line that can be read is

-- the bytes that fields take, a blank behind each
taken : List (List ℕ) → ℕ
taken [] = 0
taken (f ∷ fs) = suc (length f) + taken fs

fields_taken : (t : List ℕ) → taken (fields t) ≡ suc (length t)
unfolding fields taken
fields_taken [] = refl
fields_taken (x ∷ t) =
    let rest : suc (length (nth (fields t) 0)) + taken (drop 1 (fields t)) ≡ suc (length t) = ap taken (sym (fields-some t)) ∙ fields_taken t in
    ⊎_elim
    (λ (e : eqb x 32 ≡ true). ap taken (fields-blank x t e) ∙ ap (λ (n : ℕ). 1 + n) (fields_taken t) ∙ omega arith)
    (λ (e : eqb x 32 ≡ false). ap taken (fields_byte x t e) ∙ omega arith)
    (either_way (eqb x 32))

-- a number of eleven digits or more, the first of them no zero, is too large
number_large : (x : ℕ) (f : List ℕ) → 49 ≤ x → 10 ≤ length f → limit ≤ number_of (x ∷ f)
unfolding number_of
number_large x f h l =
    let one : 1 ≤ x - 48 = omega arith in
    let p : 10 ^ 10 ≤ 10 ^ length f = pow-le-pow_right (omega arith) l in
    omega (arith, mul-le-mul_right (10 ^ length f) one)

-- a value trimmed has ten digits at most
trim_short : (f : List ℕ) → all_digits f ≡ true → number_of f < limit → length (trimmed f) ≤ 10
unfolding trimmed all_digits on_digit
trim_short [] d h = omega arith
trim_short (x ∷ []) d h = simp and_false (omega arith)
trim_short (x ∷ y ∷ f) d h =
    let others : all_digits (y ∷ f) ≡ true = and_right (is_digit x) (all_digits (y ∷ f)) d in
    let rest : number_of (y ∷ f) < limit → length (trimmed (y ∷ f)) ≤ 10 = trim_short (y ∷ f) others in
    ⊎_elim
    (λ (e : (eqb x 48 && is_digit y) ≡ true).
    let z : x ≡ 48 = eqb-true x 48 (and_left (eqb x 48) (is_digit y) e) in
    simp e (rest (rw (z, number_zero (y ∷ f)) at h)))
    (λ (e : (eqb x 48 && is_digit y) ≡ false).
    let digit : 48 ≤ x = (digit_range x (and_left (is_digit x) (all_digits (y ∷ f)) d)).0 in
    let some : x ≡ 48 → ⊥ = λ z. false≢true (sym e ∙ simp (eq-eqb x 48 z, and_left (is_digit y) (all_digits f) others)) in
    simp e
    (elim (dec_lt (length f) 9) [
      | yes l ↦ omega arith
      | no m ↦ absurd (let large : limit ≤ number_of (x ∷ y ∷ f) = number_large x (y ∷ f) (omega arith) (omega arith) in omega arith)
    ]))
    (either_way (eqb x 48 && is_digit y))

-- values trimmed take eleven bytes each at most
values_taken : (fs : List (List ℕ)) → all_values fs ≡ true → taken (map trimmed fs) ≤ 11 * length fs
unfolding all_values taken is_value
values_taken [] v = omega arith
values_taken (f ∷ fs) v =
    let rest : taken (map trimmed fs) ≤ 11 * length fs = values_taken fs (and_right (is_value f) (all_values fs) v) in
    let digits : (all_digits f && ltb (number_of f) limit) ≡ true = and_right (ltb 0 (length f)) _ (and_left (is_value f) (all_values fs) v) in
    let short : length (trimmed f) ≤ 10 = trim_short f (and_left (all_digits f) _ digits) (ltb-true (number_of f) limit (and_right (all_digits f) _ digits)) in
    omega arith

fields-measures : (fs : List (List ℕ)) → 129 < taken (map trimmed fs) → measures_of fs ≡ None
unfolding measures_of
fields-measures fs h =
    ⊎_elim
    (λ (e : (eqb (length fs) 6 && all_values fs) ≡ true).
    absurd
    (let six : length fs ≡ 6 = eqb-true (length fs) 6 (and_left (eqb (length fs) 6) _ e) in
    omega (arith, values_taken fs (and_right (eqb (length fs) 6) _ e))))
    (λ (e : (eqb (length fs) 6 && all_values fs) ≡ false). simp e)
    (either_way (eqb (length fs) 6 && all_values fs))

fields_request : (fs : List (List ℕ)) → 129 < taken (map trimmed fs) → request_of fs ≡ None
unfolding request_of taken
fields_request [] h = absurd (omega arith)
fields_request (f ∷ fs) h =
    ⊎_elim
    (λ (e : (eqb (suc (length fs)) 4 && all_values fs) ≡ true).
    let four : suc (length fs) ≡ 4 = eqb-true (suc (length fs)) 4 (and_left (eqb (suc (length fs)) 4) _ e) in
    let long : 7 < length (trimmed f) = omega (arith, values_taken fs (and_right (eqb (suc (length fs)) 4) _ e)) in
    simp e (sym (trim_named f _ _ _) ∙ named-long (trimmed f) _ _ _ long))
    (λ (e : (eqb (suc (length fs)) 4 && all_values fs) ≡ false). simp e)
    (either_way (eqb (suc (length fs)) 4 && all_values fs))

kept_taken : (t : List ℕ) → room < length (kept t) → 129 < taken (map trimmed (fields t))
kept_taken t h = rw (← (kept_trimmed t)) (omega (arith, fields_taken (kept t)))

-- a text of which more is kept than fits can't be read
pub long_request : (t : List ℕ) → room < length (kept t) → request_line t ≡ None
unfolding request_line
long_request t h = fields_request (fields t) (kept_taken t h)

pub long-measures : (t : List ℕ) → room < length (kept t) → measures_line t ≡ None
unfolding measures_line
long-measures t h = fields-measures (fields t) (kept_taken t h)
