-- Laws of a buffer that keeps a text: how it takes the next byte, and that what is handed on of it says what the text says.
-- Assumes nothing.
use mathlib.Core.Bool.{Bool, true, false, ◌&&◌, false≢true}
use mathlib.Core.List.{List, [], ◌∷◌, ◌++◌, drop_last, append_assoc, cons-ne-nil}
use mathlib.Core.Logic.{◌↔◌}
use mathlib.Core.Path.{◌≡◌, refl, sym, ap, ap₂, subst, ◌∙◌}
use Prim.Native.Nat.{ℕ, zero, suc, ◌+◌, ◌-◌, ◌≤◌, ◌<◌}
use native.Mathlib.Numerals.{add-one}
use native.Mathlib.Omega.{arith}
use lib.Dec.{eqb}
use lib.ListN.{length, take, get_or, set, length-append, length-set}
use lib.Seq.{take_all, take-suc, take-suc-set, length-take-le}
use borrow.Author.Tests.{eq-eqb, eqb-true}
use Rattle.std.specs.Prelude.{Option, Some, None, IsTrue, option_map, unwrap_or}
use Rattle.std.specs.Option.{option_eq}
use Rattle.std.proofs.lemmas.Grind.{common_steps}
use Rattle.lines.specs.Fields.{fields, is_digit}
use Rattle.lines.specs.RequestLines.{request_of, request_line}
use Rattle.lines.specs.MeasureLines.{measures_of, measures_line}
use Rattle.lines.specs.Held.{kept_from, kept, last_zero, room, Keeps, fits, over, Extends, ExtendsBy, fitting}
use Rattle.lines.proofs.TestLaws.{and_false}
use Rattle.lines.proofs.KeptLaws.{some-kept, next, kept_more, next_longer, kept_request, kept-measures, long_request, long-measures}

some_same : {A : Type 0} {x y : A} → Some x ≡ Some y → x ≡ y
some_same {A} {x} {y} e = cc

some_none : {A : Type 0} {x : A} → Some x ≡ None → ⊥
some_none {A} {x} e = cc

-- ---- a buffer that keeps a text

pub keeps-none : Keeps (Some []) []
unfolding kept kept_from
keeps-none = fits (omega arith) refl

-- whether a buffer keeps no byte, and what is handed on of it, by how many bytes it keeps
pub empty_by : (bytes : List ℕ) (len : Option ℕ) → (IsTrue (option_eq eqb len (Some 0)) → option_map (λ n. take n bytes) len ≡ Some [])
    × (option_map (λ n. take n bytes) len ≡ Some [] → 0 < length bytes → IsTrue (option_eq eqb len (Some 0)))
empty_by bytes None = ((λ e. absurd (false≢true e)), (λ e p. absurd (some_none (sym e))))
empty_by bytes (Some n) = (
  (λ e. ap (λ (k : ℕ). Some (take k bytes)) (eqb-true n 0 e)),
  (λ e p. eq-eqb n 0 (let l : length (take n bytes) ≡ 0 = ap (λ (k : List ℕ). length k) (some_same e) in grind (arith, common_steps))),
)

pub fitting_by : (bytes : List ℕ) (len : Option ℕ) → take (unwrap_or len 0) bytes ≡ fitting (option_map (λ n. take n bytes) len)
unfolding fitting
fitting_by bytes None = refl
fitting_by bytes (Some n) = refl

-- a text of one byte or more takes one byte or more, and no other does
pub keeps_empty : (held : Option (List ℕ)) (t : List ℕ) → Keeps held t → (held ≡ Some []) ↔ (t ≡ [])
unfolding kept kept_from
keeps_empty held [] (fits l h) = (λ z. refl, λ z. h)
keeps_empty held [] (over l h) = absurd (omega arith)
keeps_empty held (x ∷ t) (fits l h) = (λ z. absurd (let e : [] ≡ kept (x ∷ t) = some_same (sym z ∙ h) in omega (arith, some-kept x t, ap (λ (k : List ℕ). length k) e)), λ z. absurd (cons-ne-nil x t z))
keeps_empty held (x ∷ t) (over l h) = (λ z. absurd (some_none (sym z ∙ h)), λ z. absurd (cons-ne-nil x t z))

none_request : request_line [] ≡ None
unfolding request_line request_of fields
none_request = refl

none-measures : measures_line [] ≡ None
unfolding measures_line measures_of fields
none-measures = refl

-- what is the same of a text and of what is kept of it, and of every text that does not fit, is had from what is handed on of a buffer
keeps_same : {A : Type 0} (q : List ℕ → A) → ((t : List ℕ) → q (kept t) ≡ q t) → ((t : List ℕ) → room < length (kept t) → q t ≡ q [])
    → (held : Option (List ℕ)) (t : List ℕ) → Keeps held t → q (fitting held) ≡ q t
unfolding fitting
keeps_same q says none held t (fits l h) = ap (λ (o : Option (List ℕ)). q (fitting o)) h ∙ says t
keeps_same q says none held t (over l h) = ap (λ (o : Option (List ℕ)). q (fitting o)) h ∙ sym (none t l)

-- what is handed on of a buffer says what the text says
pub keeps_request : (held : Option (List ℕ)) (t : List ℕ) → Keeps held t → request_line (fitting held) ≡ request_line t
keeps_request = keeps_same request_line kept_request (λ t l. long_request t l ∙ sym none_request)

pub keeps-measures : (held : Option (List ℕ)) (t : List ℕ) → Keeps held t → measures_line (fitting held) ≡ measures_line t
keeps-measures = keeps_same measures_line kept-measures (λ t l. long-measures t l ∙ sym none-measures)

-- ---- one byte more in a buffer

take-before : (m : ℕ) (l : List ℕ) → m < length l → drop_last (take (suc m) l) ≡ take m l
take-before m [] h = absurd (omega arith)
take-before zero (y ∷ l) h = refl
take-before (suc m) (y ∷ []) h = absurd (omega arith)
take-before (suc m) (y ∷ z ∷ l) h = ap (λ (k : List ℕ). y ∷ k) (take-before m (z ∷ l) (omega arith))

-- a digit takes the place of the last byte
place_last : (line : List ℕ) (n x : ℕ) → 0 < n → n ≤ length line → drop_last (take n line) ++ (x ∷ []) ≡ take n (set line (n - 1) x)
place_last line n x p q =
    let s : n ≡ suc (n - 1) = omega arith in
    ap (λ (k : List ℕ). k ++ (x ∷ [])) (ap (λ (k : ℕ). drop_last (take k line)) s ∙ take-before (n - 1) line (omega arith))
    ∙ sym (ap (λ (k : ℕ). take k (set line (n - 1) x)) s ∙ take-suc-set line (n - 1) x (omega arith))

kept-fits : {k : List ℕ} (t : List ℕ) → length k ≤ room → k ≡ kept t → Keeps (Some k) t
kept-fits {k} t l e = fits (rw e at l) (ap Some e)

-- a byte that is no digit takes no place, nor does one that comes after no zero
pub no_place_digit : (x : ℕ) (k : List ℕ) → is_digit x ≡ false → (is_digit x && last_zero true k) ≡ false
no_place_digit x k e = simp e

pub no_place_zero : (x : ℕ) (k : List ℕ) → last_zero true k ≡ false → (is_digit x && last_zero true k) ≡ false
no_place_zero x k e = simp (e, and_false)

-- a buffer told otherwise
pub extends_told : {a b c d : Option (List ℕ)} {x : ℕ} → a ≡ c → b ≡ d → Extends a x b → Extends c x d
extends_told {a} {b} {c} {d} {x} e f h = subst (λ (o : Option (List ℕ)). Extends c x o) f (subst (λ (o : Option (List ℕ)). Extends o x b) e h)

-- one byte more of those that a buffer takes
pub extends_more : {before mid after : Option (List ℕ)} (input : List ℕ) (i : ℕ) → i < length input → ExtendsBy before (take i input) mid
    → Extends mid (get_or input i 0) after → ExtendsBy before (take (i + 1) input) after
extends_more {before} {mid} {after} input i h a b t k =
    let e : t ++ take (i + 1) input ≡ (t ++ take i input) ++ (get_or input i 0 ∷ []) =
    ap (λ (n : ℕ). t ++ take n input) (add-one i) ∙ ap (λ (xs : List ℕ). t ++ xs) (take-suc input i 0 h)
    ∙ sym (append_assoc t (take i input) (get_or input i 0 ∷ [])) in
    subst (Keeps after) (sym e) (b (t ++ take i input) (a t k))

-- what does not fit goes on not to fit
pub extends_over : (x : ℕ) → Extends None x None
extends_over x t (fits l h) = absurd (some_none (sym h))
extends_over x t (over l h) = over (rw (kept_more t x) (omega (arith, next_longer true (kept t) x))) refl

-- a digit is put in the place of a zero, so that there is one
pub place_some : (k : List ℕ) → last_zero true k ≡ true → 0 < length k
unfolding last_zero
place_some [] e = absurd (false≢true e)
place_some (y ∷ k) e = omega arith

module _ (line : List ℕ) (n x : ℕ) (p : n ≤ room) (q : n ≤ length line) where
  -- what is kept of the text with x behind it, out of the buffer
  kept_now : (t : List ℕ) → Some (take n line) ≡ Some (kept t) → kept (t ++ (x ∷ [])) ≡ next true (take n line) x
  kept_now t h = kept_more t x ∙ ap (λ (k : List ℕ). next true k x) (sym (some_same h))

  -- a digit takes the place of a zero
  pub extends_place : is_digit x ≡ true → last_zero true (take n line) ≡ true → Extends (Some (take n line)) x (Some (take n (set line (n - 1) x)))
  unfolding next
  extends_place d e t (fits l h) =
      let some : 0 < n = omega (arith, place_some (take n line) e, length-take-le n line q) in
      kept-fits (t ++ (x ∷ [])) (omega (arith, length-take-le n (set line (n - 1) x) (simp length-set q)))
      (sym (kept_now t h ∙ simp (d, e) (place_last line n x some q)))
  extends_place d e t (over l h) = absurd (some_none h)

  module _ (e : (is_digit x && last_zero true (take n line)) ≡ false) where
    kept-behind : (t : List ℕ) → Some (take n line) ≡ Some (kept t) → kept (t ++ (x ∷ [])) ≡ take n line ++ (x ∷ [])
    unfolding next
    kept-behind t h = kept_now t h ∙ simp e

    -- any other byte is put behind
    pub extends_behind : n < room → n < length line → Extends (Some (take n line)) x (Some (take (n + 1) (set line n x)))
    extends_behind a b t (fits l h) =
        kept-fits (t ++ (x ∷ [])) (omega (arith, length-take-le (n + 1) (set line n x) (simp length-set (omega arith))))
        (rw (add-one n) (take-suc-set line n x b) ∙ sym (kept-behind t h))
    extends_behind a b t (over l h) = absurd (some_none h)

    -- there is no place for it
    pub extends_full : n ≡ room → Extends (Some (take n line)) x None
    extends_full a t (fits l h) = over (rw (kept-behind t h) (omega (arith, length-append (take n line) (x ∷ []), length-take-le n line q))) refl
    extends_full a t (over l h) = absurd (some_none h)

-- ---- the last field of a text

last_pair : (s : Bool) (k : List ℕ) (a b : ℕ) → last_zero s (k ++ (a ∷ b ∷ [])) ≡ (eqb a 32 && eqb b 48)
unfolding last_zero
last_pair s [] a b = refl
last_pair s (y ∷ []) a b = refl
last_pair s (y ∷ z ∷ k) a b = last_pair (eqb y 32) (z ∷ k) a b

pub last_none : (t : List ℕ) → length t < 1 → last_zero true t ≡ false
unfolding last_zero
last_none [] h = refl
last_none (x ∷ t) h = absurd (omega arith)

-- a byte alone
pub last_lone : (t : List ℕ) → 1 ≤ length t → length t < 2 → last_zero true t ≡ eqb (get_or t 0 0) 48
unfolding last_zero
last_lone [] g h = absurd (omega arith)
last_lone (x ∷ []) g h = refl
last_lone (x ∷ y ∷ t) g h = absurd (omega arith)

-- the last two bytes
pub last_both : (t : List ℕ) → 2 ≤ length t → last_zero true t ≡ (eqb (get_or t (length t - 2) 0) 32 && eqb (get_or t (length t - 1) 0) 48)
last_both t h =
    let a : length t ≡ suc (suc (length t - 2)) = omega arith in
    let two : t ≡ take (length t - 2) t ++ (get_or t (length t - 2) 0 ∷ get_or t (length t - 1) 0 ∷ []) =
    sym (take_all (length t) t (omega arith)) ∙ ap (λ (k : ℕ). take k t) a ∙ take-suc t (suc (length t - 2)) 0 (omega arith)
    ∙ ap₂ (λ (k : List ℕ) (i : ℕ). k ++ (get_or t i 0 ∷ [])) (take-suc t (length t - 2) 0 (omega arith)) (omega arith)
    ∙ append_assoc (take (length t - 2) t) (get_or t (length t - 2) 0 ∷ []) (get_or t (length t - 1) 0 ∷ []) in
    ap (last_zero true) two ∙ last_pair true (take (length t - 2) t) (get_or t (length t - 2) 0) (get_or t (length t - 1) 0)
