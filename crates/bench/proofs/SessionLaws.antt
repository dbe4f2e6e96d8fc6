-- Laws of a session: a line held byte by byte, lines taken one after another, and what is written of them.
-- Assumes nothing.
use mathlib.Core.Bool.{Bool, true, false}
use mathlib.Core.List.{List, [], ◌∷◌, ◌++◌, append_assoc, append-nil}
use mathlib.Core.Path.{◌≡◌, refl, sym, ap, ap₂, ◌∙◌, subst}
use Prim.Native.Nat.{ℕ, zero, suc, ◌+◌, ◌-◌, ◌≤◌, ◌<◌}
use native.Mathlib.Numerals.{add-one}
use native.Mathlib.Omega.{arith}
use lib.Dec.{eqb}
use lib.ListN.{length, take, drop, get_or, drop_of_length-le, length-append, length-drop}
use lib.Seq.{drop-cons, drop-drop, get_or-drop, take_all, length-take-le, take-append-le, take-append-add}
use borrow.Rule.Slice.PartMut.{put_mid, post_of}
use borrow.Author.Tests.{eq-eqb, ne_eqb}
use Rattle.std.specs.Prelude.{Option, Some}
use Rattle.lines.specs.Held.{Keeps, Extends, ExtendsBy, fitting}
use Rattle.lines.proofs.HeldLaws.{keeps-none, keeps_empty, keeps_request, keeps-measures}
use Rattle.shelf.specs.Lent.{Lent}
use Rattle.bench.specs.Sessions.{lines_from, held_after, last_line, Takes, Transcript, no_lines, one_more, closing, Ends, Closes}
use Rattle.bench.specs.declared.session.Session.{Session}
use Rattle.bench.specs.declared.session.Stage.{Stage}

-- ---- a line that is held

next_byte : (input : List ℕ) (at : ℕ) → at < length input → drop at input ≡ get_or input at 0 ∷ drop (at + 1) input
next_byte input at h = drop-cons input at 0 h ∙ ap (λ (k : ℕ). get_or input at 0 ∷ drop k input) (sym (add-one at))

-- the lines that end among bytes, and what is held after them, by the first byte: a newline, or any other
pub lines_by : (t : List ℕ) (x : ℕ) (xs : List ℕ) (b : Bool) → eqb x 10 ≡ b
    → lines_from t (x ∷ xs) ≡ elim b as (λ _. List (List ℕ)) [ true ↦ t ∷ lines_from [] xs | false ↦ lines_from (t ++ (x ∷ [])) xs ]
unfolding lines_from
lines_by t x xs b = ap (λ (k : Bool). elim k as (λ _. List (List ℕ)) [ true ↦ t ∷ lines_from [] xs | false ↦ lines_from (t ++ (x ∷ [])) xs ])

pub held_by : (t : List ℕ) (x : ℕ) (xs : List ℕ) (b : Bool) → eqb x 10 ≡ b
    → held_after t (x ∷ xs) ≡ elim b as (λ _. List ℕ) [ true ↦ held_after [] xs | false ↦ held_after (t ++ (x ∷ [])) xs ]
unfolding held_after
held_by t x xs b = ap (λ (k : Bool). elim k as (λ _. List ℕ) [ true ↦ held_after [] xs | false ↦ held_after (t ++ (x ∷ [])) xs ])

-- ---- lines one after another

pub transcript_then : {ks ls : List (List ℕ)} {s s' s'' : Stage} {h h' h'' : Lent} {xs ys : List ℕ} → Transcript ks s h xs s' h' → Transcript ls s' h' ys s'' h''
    → Transcript (ks ++ ls) s h (xs ++ ys) s'' h''
transcript_then no_lines v = v
transcript_then {ks} {ls} {s} {s'} {s''} {h} {h'} {h''} {xs} {ys} (one_more {line} {lines} text {rest} t g took u) v =
    subst (λ (z : List ℕ). Transcript (line ∷ lines ++ ls) s h z s'' h'') (sym (append_assoc text rest ys)) (one_more text t g took (transcript_then u v))

-- a line that is kept is taken as it is
pub takes_kept : (held : Option (List ℕ)) (t : List ℕ) → Keeps held t → (s : Stage) (h : Lent) (text : List ℕ) (s' : Stage) (h' : Lent)
    → Takes (fitting held) s h text s' h' → Takes t s h text s' h'
unfolding Takes
takes_kept held t k Stage.MeasureNames h text s' h' x = x
takes_kept held t k Stage.Measures h text s' h' x =
    let e = keeps-measures held t k in
    record { written = rw e at x.written; stage = rw e at x.stage; shelf = rw e at x.shelf }
takes_kept held t k Stage.CallNames h text s' h' x = x
takes_kept held t k Stage.Calls h text s' h' x =
    let e = keeps_request held t k in
    record { code = x.code; first = x.first; performed = rw e at x.performed; written = rw e at x.written; stage = x.stage }
takes_kept held t k Stage.Refused h text s' h' x = x

-- What was made of a piece of the input so far, up to an index: some lines are taken, and the line that is begun goes on there.
pub record SoFar (input t : List ℕ) (s₀ : Stage) (h₀ : Lent) (at : ℕ) (text : List ℕ) (r : Session) : Type 0 where
  pub done : List (List ℕ)
  pub begun : List ℕ
  pub keeps : Keeps r.line begun
  pub lines : lines_from t input ≡ done ++ lines_from begun (drop at input)
  pub held : held_after t input ≡ held_after begun (drop at input)
  pub transcript : Transcript done s₀ h₀ text r.stage r.room

pub so_far_none : (input t : List ℕ) (r : Session) → Keeps r.line t → SoFar input t r.stage r.room 0 [] r
so_far_none input t r k = record { done = []; begun = t; keeps = k; lines = refl; held = refl; transcript = no_lines }

-- a newline: one more line is taken
pub so_far_line : (input t : List ℕ) (s₀ : Stage) (h₀ : Lent) (at : ℕ) (text more all : List ℕ) (r r' : Session) → at < length input
    → get_or input at 0 ≡ 10 → SoFar input t s₀ h₀ at text r → Takes (fitting r.line) r.stage r.room more r'.stage r'.room
    → r'.line ≡ Some [] → all ≡ text ++ more → SoFar input t s₀ h₀ (at + 1) all r'
so_far_line input t s₀ h₀ at text more all r r' h e w took cleared is =
    let x : ℕ = get_or input at 0 in
    let q : eqb x 10 ≡ true = eq-eqb x 10 e in
    let b = w.begun in
    record {
      done = w.done ++ (b ∷ []);
      begun = [];
      keeps = subst (λ (o : Option (List ℕ)). Keeps o []) (sym cleared) keeps-none;
      lines = w.lines
          ∙ ap (λ (ls : List (List ℕ)). w.done ++ ls) (ap (lines_from b) (next_byte input at h) ∙ lines_by b x (drop (at + 1) input) true q)
          ∙ sym (append_assoc w.done (b ∷ []) (lines_from [] (drop (at + 1) input)));
      held = w.held ∙ ap (held_after b) (next_byte input at h) ∙ held_by b x (drop (at + 1) input) true q;
      transcript = subst (λ (z : List ℕ). Transcript (w.done ++ (b ∷ [])) s₀ h₀ z r'.stage r'.room) (ap (λ (z : List ℕ). text ++ z) (append-nil more) ∙ sym is)
          (transcript_then w.transcript (one_more more r'.stage r'.room (takes_kept r.line b w.keeps r.stage r.room more r'.stage r'.room took) no_lines));
    }

-- any other byte is in the line that is begun
pub so_far_byte : (input t : List ℕ) (s₀ : Stage) (h₀ : Lent) (at : ℕ) (text : List ℕ) (r r' : Session) → at < length input
    → (get_or input at 0 ≡ 10 → ⊥) → SoFar input t s₀ h₀ at text r → Extends r.line (get_or input at 0) r'.line → r'.stage ≡ r.stage → r'.room ≡ r.room
    → SoFar input t s₀ h₀ (at + 1) text r'
so_far_byte input t s₀ h₀ at text r r' h e w more same same' =
    let x : ℕ = get_or input at 0 in
    let q : eqb x 10 ≡ false = ne_eqb x 10 e in
    let b = w.begun in
    record {
      done = w.done;
      begun = b ++ (x ∷ []);
      keeps = more b w.keeps;
      lines = w.lines
          ∙ ap (λ (ls : List (List ℕ)). w.done ++ ls) (ap (lines_from b) (next_byte input at h) ∙ lines_by b x (drop (at + 1) input) false q);
      held = w.held ∙ ap (held_after b) (next_byte input at h) ∙ held_by b x (drop (at + 1) input) false q;
      transcript = subst (λ (k : Lent). Transcript w.done s₀ h₀ text r'.stage k) (sym same')
          (subst (λ (k : Stage). Transcript w.done s₀ h₀ text k r.room) (sym same) w.transcript);
    }

-- some bytes, none of which is a newline
lines_past : (n : ℕ) (t xs : List ℕ) → n ≤ length xs → ((k : ℕ) → k < n → get_or xs k 0 ≡ 10 → ⊥) → lines_from t xs ≡ lines_from (t ++ take n xs) (drop n xs)
lines_past zero t xs h f = ap (λ (ys : List ℕ). lines_from ys xs) (sym (append-nil t))
lines_past (suc n) t [] h f = absurd (omega arith)
lines_past (suc n) t (x ∷ xs) h f =
    lines_by t x xs false (ne_eqb x 10 (f 0 (omega arith))) ∙ lines_past n (t ++ (x ∷ [])) xs (omega arith) (λ k l. f (suc k) (omega arith))
    ∙ ap (λ (ys : List ℕ). lines_from ys (drop n xs)) (append_assoc t (x ∷ []) (take n xs))

held_past : (n : ℕ) (t xs : List ℕ) → n ≤ length xs → ((k : ℕ) → k < n → get_or xs k 0 ≡ 10 → ⊥) → held_after t xs ≡ held_after (t ++ take n xs) (drop n xs)
held_past zero t xs h f = ap (λ (ys : List ℕ). held_after ys xs) (sym (append-nil t))
held_past (suc n) t [] h f = absurd (omega arith)
held_past (suc n) t (x ∷ xs) h f =
    held_by t x xs false (ne_eqb x 10 (f 0 (omega arith))) ∙ held_past n (t ++ (x ∷ [])) xs (omega arith) (λ k l. f (suc k) (omega arith))
    ∙ ap (λ (ys : List ℕ). held_after ys (drop n xs)) (append_assoc t (x ∷ []) (take n xs))

-- what a piece has from an index on, as it is lent
pub rest_is : (at : ℕ) (input : List ℕ) → take (length input - at) (drop at input) ≡ drop at input
rest_is at input = take_all (length input - at) (drop at input) (omega (arith, length-drop at input))

pub taken_within : (input rest : List ℕ) (at n : ℕ) → rest ≡ drop at input → at ≤ length input → n ≤ length rest → at + n ≤ length input
taken_within input rest at n e a h =
    let l : length rest ≡ length (drop at input) = ap (λ (xs : List ℕ). length xs) e in
    omega (arith, l, length-drop at input)

pub so_far_bytes : (input t rest : List ℕ) (s₀ : Stage) (h₀ : Lent) (at n : ℕ) (text : List ℕ) (r r' : Session) → rest ≡ drop at input
    → n ≤ length rest → ((k : ℕ) → k < n → get_or rest k 0 ≡ 10 → ⊥) → SoFar input t s₀ h₀ at text r → ExtendsBy r.line (take n rest) r'.line
    → r'.stage ≡ r.stage → r'.room ≡ r.room → SoFar input t s₀ h₀ (at + n) text r'
so_far_bytes input t rest s₀ h₀ at n text r r' e h none w more same same' =
    let b = w.begun in
    let behind : drop n rest ≡ drop (at + n) input = ap (λ (xs : List ℕ). drop n xs) e ∙ drop-drop n at input in
    record {
      done = w.done;
      begun = b ++ take n rest;
      keeps = more b w.keeps;
      lines = w.lines
          ∙ ap (λ (ls : List (List ℕ)). w.done ++ ls) (ap (lines_from b) (sym e) ∙ lines_past n b rest h none ∙ ap (λ (xs : List ℕ). lines_from (b ++ take n rest) xs) behind);
      held = w.held ∙ ap (held_after b) (sym e) ∙ held_past n b rest h none ∙ ap (λ (xs : List ℕ). held_after (b ++ take n rest) xs) behind;
      transcript = subst (λ (k : Lent). Transcript w.done s₀ h₀ text r'.stage k) (sym same')
          (subst (λ (k : Stage). Transcript w.done s₀ h₀ text k r.room) (sym same) w.transcript);
    }

-- the byte behind what was taken
pub next_newline : (input rest : List ℕ) (at n : ℕ) → rest ≡ drop at input → at + n < length input → (n < length rest → get_or rest n 0 ≡ 10)
    → get_or input (at + n) 0 ≡ 10
next_newline input rest at n e h is =
    let l : length rest ≡ length (drop at input) = ap (λ (xs : List ℕ). length xs) e in
    sym (get_or-drop at input n 0) ∙ sym (ap (λ (xs : List ℕ). get_or xs n 0) e) ∙ is (omega (arith, l, length-drop at input))

-- the piece ends
pub so_far_all : (input t : List ℕ) (s₀ : Stage) (h₀ : Lent) (at : ℕ) (text : List ℕ) (r : Session) → SoFar input t s₀ h₀ at text r → length input ≤ at
    → Transcript (lines_from t input) s₀ h₀ text r.stage r.room × Keeps r.line (held_after t input)
unfolding lines_from held_after
so_far_all input t s₀ h₀ at text r w l =
    let none : drop at input ≡ [] = drop_of_length-le input l in (
      subst (λ (ls : List (List ℕ)). Transcript ls s₀ h₀ text r.stage r.room)
          (sym (w.lines ∙ ap (λ (ys : List ℕ). w.done ++ lines_from w.begun ys) none ∙ append-nil w.done)) w.transcript,
      subst (Keeps r.line) (sym (w.held ∙ ap (held_after w.begun) none)) w.keeps,
    )

-- ---- the buffer of the output

-- what is put behind the first bytes of a buffer
pub out_more : (a k n : ℕ) (xs ys : List ℕ) → a ≤ length xs → n ≤ length ys → take (a + n) (put_mid a k xs ys) ≡ take a xs ++ take n ys
out_more a k n xs ys h m =
    let e : length (take a xs) ≡ a = length-take-le a xs h in
    ap (λ (j : ℕ). take (j + n) (put_mid a k xs ys)) (sym e) ∙ take-append-add (take a xs) (ys ++ post_of a k xs) n
    ∙ ap (λ (zs : List ℕ). take a xs ++ zs) (take-append-le n ys (post_of a k xs) m)

-- the 128 bytes from an index on
pub mid_length : (a : ℕ) (xs : List ℕ) → a + 128 ≤ length xs → length (take (a + 128 - a) (drop a xs)) ≡ 128
mid_length a xs h =
    let n : a + 128 - a ≡ 128 = omega arith in
    let l : length (drop a xs) ≡ length xs - a = length-drop a xs in
    rw n (length-take-le 128 (drop a xs) (omega arith))

-- ---- the end of the input

pub last_none : (held : Option (List ℕ)) (t : List ℕ) (s : Stage) (h : Lent) → Keeps held t → held ≡ Some [] → Transcript (last_line t) s h [] s h
unfolding last_line
last_none held [] s h k e = no_lines
last_none held (x ∷ t) s h k e = absurd (cons_none ((keeps_empty held (x ∷ t) k).0 e))
  where
    cons_none : x ∷ t ≡ [] → ⊥
    cons_none p = let q : suc (length t) ≡ 0 = ap length p in omega arith

pub last_some : (held : Option (List ℕ)) (t : List ℕ) (s : Stage) (h : Lent) (text : List ℕ) (s' : Stage) (h' : Lent) → Keeps held t → (held ≡ Some [] → ⊥)
    → Takes (fitting held) s h text s' h' → Transcript (last_line t) s h text s' h'
unfolding last_line
last_some held [] s h text s' h' k e took = absurd (e ((keeps_empty held [] k).1 refl))
last_some held (x ∷ t) s h text s' h' k e took =
    subst (λ (z : List ℕ). Transcript ((x ∷ t) ∷ []) s h z s' h') (append-nil text) (one_more text s' h' (takes_kept held (x ∷ t) k s h text s' h' took) no_lines)

-- what a session ends with, put in the buffer behind what was written of the last line
pub closes_made : (from : Session) (s : Stage) (h' : Lent) (x o y : List ℕ) (n r k : ℕ) → Ends from s h' (take n x)
    → take r y ≡ closing s → n ≤ length x → r ≤ length y → Closes from (take (n + r) (put_mid n k (x ++ drop 128 o) y))
closes_made from s h' x o y n r k e c hn hr =
    let room : n ≤ length (x ++ drop 128 o) = omega (arith, hn, length-append x (drop 128 o)) in
    record {
      stage = s;
      shelf = h';
      text_of_line = take n x;
      ends = e;
      written = out_more n k r (x ++ drop 128 o) y room hr ∙ ap₂ (λ (a b : List ℕ). a ++ b) (take-append-le n x (drop 128 o) hn) c;
    }
