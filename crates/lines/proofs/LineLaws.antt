-- Laws of lines: what is found by going through a line field by field is what the line says.
-- Assumes nothing.
use mathlib.Core.Bool.{Bool, true, false, cond, ◌&&◌, false≢true}
use mathlib.Core.List.{List, [], ◌∷◌, ◌++◌, map, append_assoc, append-nil}
use mathlib.Core.Logic.{⊎_elim}
use mathlib.Core.Path.{◌≡◌, refl, sym, ap, ◌∙◌, subst}
use Prim.Native.Nat.{ℕ, suc, ◌+◌, ◌-◌, ◌≤◌, ◌<◌}
use native.Mathlib.Omega.{arith}
use lib.Dec.{eqb, eqb-suc-suc}
use lib.ListN.{length, take, drop, get_or, length-drop, get_or-map}
use lib.Seq.{take_all}
use denote.Ref.{Bor}
use denote.Param.Members.{Mut}
use Rattle.std.specs.Prelude.{Option, Some, None, MatchBool, is_some}
use Rattle.std.specs.Fn.{ComputesKey, CalledAt}
use Rattle.std.specs.List.{All, position, position_or_len, slice_split, IsFirstMatchOrLen}
use Rattle.std.specs.Slice.Iter.{split_steps, split_rest, split_done, split_callee}
use Rattle.std.specs.declared.slice.Split.{Split}
use Rattle.std.proofs.lemmas.List.Quantifiers.{position-Some}
use Rattle.std.proofs.lemmas.List.Sums.{fails_before_first}
use Rattle.std.proofs.lemmas.List.Splits.{slice_split_none, slice_split_at, slice_split_first}
use Rattle.std.proofs.lemmas.Fn.{always_returns_same}
use Rattle.std.proofs.lemmas.Grind.{common_steps}
use Rattle.lines.specs.Fields.{fields, nth, number_of, is_value, all_values}
use Rattle.lines.specs.RequestLines.{named, request_of}
use Rattle.lines.specs.MeasureLines.{measures_of}
use Rattle.lines.specs.Walking.{value_of, values_of}
use Rattle.lines.proofs.TestLaws.{either_way, and_false}
use Rattle.lines.proofs.FieldLaws.{fields_split}

-- ---- fields that are split off one after another

abbrev pub is_blank : ℕ → Bool
is_blank x = eqb x 32

-- the fields that a split has left: those of the rest, or none once it is done
abbrev pub left : Bool → List ℕ → List (List ℕ)
left done rest = cond done [] (slice_split is_blank rest)

left_part : (xs x rest : List ℕ) (done : Bool) → MatchBool done (xs ≡ x) ((y : ℕ) × (xs ≡ x ++ (y ∷ rest))) → IsFirstMatchOrLen is_blank xs (length x)
    → slice_split is_blank xs ≡ x ∷ left done rest
left_part xs x rest true e h =
    ap (slice_split is_blank) e ∙ slice_split_none is_blank x (λ k d l. subst (λ ys. is_blank (get_or ys k d) ≡ false) e (h.0 k d (omega arith) l))
left_part xs x rest false e h =
    let front : All (λ z. is_blank z ≡ false) x = λ k d l. let a = h.0 k d (omega arith) l in let b = e.1 in grind (arith, common_steps) in
    let hit : is_blank e.0 ≡ true = let b = e.1 in let a = h.1 (grind (arith, common_steps)) e.0 in grind (arith, common_steps) in
    ap (slice_split is_blank) e.1 ∙ slice_split_at is_blank x e.0 rest front hit

module _ {F : Type 0} (g : Mut F (Bor ℕ × Unit {0}) Bool) (s t : Split ℕ F) where
  -- a call of next that gives none: none was left
  pub none_left : {r : Option (Bor (List ℕ))} → r ≡ None → split_steps g s r t → left (split_done s) (split_rest s) ≡ []
  none_left e p =
      let n : split_steps g s None t = subst (λ (o : Option (Bor (List ℕ))). split_steps g s o t) e p in
      simp n.0

  -- a call of next that gives a field: it is the first of those that were left
  pub one_left : {r : Option (Bor (List ℕ))} (x : Bor (List ℕ)) → ((y : ℕ) (b : Bool) (q : F) → CalledAt g (split_callee s) y b q → (q ≡ split_callee s) × (b ≡ is_blank y))
      → r ≡ Some x → split_steps g s r t → left (split_done s) (split_rest s) ≡ x.now ∷ left (split_done t) (split_rest t)
  one_left x tests e p =
      let k : ComputesKey g is_blank (split_callee s) =
      always_returns_same g (λ a r. r ≡ is_blank a.0.now) (split_callee s)
      (λ a r q k. let m = tests a.0.now r q (record { shown = a.0; shows = refl; called = k }) in (m.1, m.0)) in
      let n : split_steps g s (Some x) t = subst (λ (o : Option (Bor (List ℕ))). split_steps g s o t) e p in
      simp n.0 (left_part _ x.now _ (split_done t) n.1 (n.2 is_blank k).1)

-- what a test whether an option is some tells
pub some_is : {A : Type 0} (o : Option A) → is_some o ≡ true → (x : A) × (o ≡ Some x)
some_is None e = absurd (false≢true e)
some_is (Some x) e = (x, refl)

pub none_is : {A : Type 0} (o : Option A) → is_some o ≡ false → o ≡ None
none_is None e = refl
none_is (Some x) e = absurd (false≢true (sym e))

-- ---- values, one after another

-- the numbers that are read, and those of n fields more that are values
unfoldable pub more : List ℕ → ℕ → List (List ℕ) → Option (List ℕ)
more vs n fs = cond (eqb (length fs) n && all_values fs) (Some (vs ++ map number_of fs)) None

pub more_start : (n : ℕ) (fs : List (List ℕ)) → more [] n fs ≡ values_of n fs
unfolding more values_of
more_start n fs = refl

-- none is left, though one is wanted
pub more_none : (vs : List ℕ) (n : ℕ) → 0 < n → more vs n [] ≡ None
unfolding more
more_none vs n h = grind (arith, common_steps)

-- a field that is no value
pub more_off : (vs : List ℕ) (n : ℕ) (f : List ℕ) (fs : List (List ℕ)) → value_of f ≡ None → more vs n (f ∷ fs) ≡ None
unfolding more value_of all_values
more_off vs n f fs h =
    ⊎_elim
    (λ (e : is_value f ≡ true). absurd (let n : Some (number_of f) ≡ None = simp e at h in cc))
    (λ (e : is_value f ≡ false). simp (e, and_false))
    (either_way (is_value f))

value_some : (f : List ℕ) (v : ℕ) → value_of f ≡ Some v → (is_value f ≡ true) × (number_of f ≡ v)
unfolding value_of
value_some f v h =
    ⊎_elim
    (λ (e : is_value f ≡ true). (e, let n : Some (number_of f) ≡ Some v = simp e at h in cc))
    (λ (e : is_value f ≡ false). absurd (let n : None ≡ Some v = simp e at h in cc))
    (either_way (is_value f))

-- a field that is one
pub more_on : (vs : List ℕ) (n : ℕ) (f : List ℕ) (fs : List (List ℕ)) (v : ℕ) → 0 < n → value_of f ≡ Some v → more vs n (f ∷ fs) ≡ more (vs ++ (v ∷ [])) (n - 1) fs
unfolding more all_values
more_on vs n f fs v h e =
    let s : n ≡ suc (n - 1) = omega arith in
    let d : (is_value f ≡ true) × (number_of f ≡ v) = value_some f v e in
    ap (λ (k : ℕ). more vs k (f ∷ fs)) s ∙ simp (d.0, d.1, append_assoc, eqb-suc-suc (length fs) (n - 1))

-- a field too many
pub more_long : (vs : List ℕ) (f : List ℕ) (fs : List (List ℕ)) → more vs 0 (f ∷ fs) ≡ None
unfolding more
more_long vs f fs = grind (arith, common_steps)

-- all are read
pub more_end : (vs : List ℕ) → more vs 0 [] ≡ Some vs
unfolding more all_values
more_end vs = ap Some (append-nil vs)

-- ---- whole lines

-- fields that are not n values, and those that are
values_none : (n : ℕ) (fs : List (List ℕ)) → values_of n fs ≡ None → (eqb (length fs) n && all_values fs) ≡ false
unfolding values_of
values_none n fs h =
    ⊎_elim
    (λ (e : (eqb (length fs) n && all_values fs) ≡ true). absurd (let n : Some (map number_of fs) ≡ None = simp e at h in cc))
    (λ (e : (eqb (length fs) n && all_values fs) ≡ false). e)
    (either_way (eqb (length fs) n && all_values fs))

values_some : (n : ℕ) (fs : List (List ℕ)) (vs : List ℕ) → values_of n fs ≡ Some vs → ((eqb (length fs) n && all_values fs) ≡ true) × (map number_of fs ≡ vs)
unfolding values_of
values_some n fs vs h =
    ⊎_elim
    (λ (e : (eqb (length fs) n && all_values fs) ≡ true). (e, let n : Some (map number_of fs) ≡ Some vs = simp e at h in cc))
    (λ (e : (eqb (length fs) n && all_values fs) ≡ false). absurd (let n : None ≡ Some vs = simp e at h in cc))
    (either_way (eqb (length fs) n && all_values fs))

-- the number of field k
number_at : (fs : List (List ℕ)) (vs : List ℕ) → map number_of fs ≡ vs → (k : ℕ) → number_of (nth fs k) ≡ get_or vs k 0
unfolding number_of
number_at fs vs e k = sym (get_or-map number_of fs k []) ∙ ap (λ (ns : List ℕ). get_or ns k 0) e

pub measures_none : (fs : List (List ℕ)) → values_of 6 fs ≡ None → measures_of fs ≡ None
unfolding measures_of
measures_none fs h = simp (values_none 6 fs h)

pub measures_some : (fs : List (List ℕ)) (vs : List ℕ) → values_of 6 fs ≡ Some vs
    → measures_of fs ≡ Some (record { d = get_or vs 0 0; s = get_or vs 1 0; b = get_or vs 2 0; l = get_or vs 3 0; h = get_or vs 4 0; e = get_or vs 5 0 })
unfolding measures_of
measures_some fs vs h =
    let v : ((eqb (length fs) 6 && all_values fs) ≡ true) × (map number_of fs ≡ vs) = values_some 6 fs vs h in
    let n : (k : ℕ) → number_of (nth fs k) ≡ get_or vs k 0 = number_at fs vs v.1 in
    simp (v.0, n 0, n 1, n 2, n 3, n 4, n 5)

-- a name and fields that are not three values, or that are
pub request_none : (f : List ℕ) (fs : List (List ℕ)) → values_of 3 fs ≡ None → request_of (f ∷ fs) ≡ None
unfolding request_of
request_none f fs h = simp (eqb-suc-suc (length fs) 3, values_none 3 fs h)

pub request_some : (f : List ℕ) (fs : List (List ℕ)) (vs : List ℕ) → values_of 3 fs ≡ Some vs
    → request_of (f ∷ fs) ≡ named f (get_or vs 0 0) (get_or vs 1 0) (get_or vs 2 0)
unfolding request_of
request_some f fs vs h =
    let v : ((eqb (length fs) 3 && all_values fs) ≡ true) × (map number_of fs ≡ vs) = values_some 3 fs vs h in
    let n : (k : ℕ) → number_of (nth fs k) ≡ get_or vs k 0 = number_at fs vs v.1 in
    simp (eqb-suc-suc (length fs) 3, v.0, n 0, n 1, n 2)

pub request_alone : (f : List ℕ) → request_of (f ∷ []) ≡ None
unfolding request_of
request_alone f = grind (arith, common_steps)

-- a text that is cut at its first blank, and one that has none
pub fields_at : (line : List ℕ) (i : ℕ) → position is_blank line ≡ Some i
    → fields line ≡ take i line ∷ fields (take (length line - (i + 1)) (drop (i + 1) line))
fields_at line i e =
    let at : position_or_len is_blank line ≡ i = grind (arith, common_steps) in
    let within : i < length line = (position-Some is_blank line i 0 e).0 in
    let rest : take (length line - (i + 1)) (drop (i + 1) line) ≡ drop (i + 1) line = take_all _ (drop (i + 1) line) (simp length-drop (omega arith)) in
    fields_split line ∙ slice_split_first is_blank line 0 (omega arith)
    ∙ ap (λ (k : ℕ). take k line ∷ slice_split is_blank (drop (k + 1) line)) at
    ∙ ap (λ (fs : List (List ℕ)). take i line ∷ fs) (sym (ap fields rest ∙ fields_split (drop (i + 1) line)))

pub fields_alone : (line : List ℕ) → position is_blank line ≡ None → fields line ≡ line ∷ []
fields_alone line e =
    let none : length line ≤ position_or_len is_blank line = grind (arith, common_steps) in
    fields_split line ∙ slice_split_none is_blank line (λ k d l. fails_before_first is_blank line k d (omega arith))
