-- The pieces in which the input comes are of no account: a session that is fed some pieces, each as `feed` promises, and then closed, takes the lines of
-- the whole input in their order, and writes what comes of them (`whole_input`); and where it is not closed, since the measures were refused, no rest of
-- the input would bring more (`refused_input`).
-- Assumes nothing.
use mathlib.Core.Bool.{true, false}
use mathlib.Core.List.{List, [], ◌∷◌, ◌++◌, append_assoc, append-nil}
use mathlib.Core.Logic.{⊎_elim}
use mathlib.Core.Path.{◌≡◌, refl, sym, ap, ap₂, ◌∙◌, subst}
use Prim.Native.Nat.{ℕ}
use lib.Dec.{eqb}
use lib.ListN.{take}
use Rattle.std.specs.Prelude.{Option}
use Rattle.lines.specs.AnswerLines.{columns_line}
use Rattle.lines.specs.Held.{Keeps}
use Rattle.lines.proofs.HeldLaws.{keeps-none}
use Rattle.lines.proofs.TestLaws.{either_way}
use Rattle.shelf.specs.Lent.{Lent}
use Rattle.bench.specs.Sessions.{lines_from, held_after, last_line, all_lines, Takes, Transcript, no_lines, one_more, closing, Written, Opened, Feeds, Closes}
use Rattle.bench.specs.declared.session.Session.{Session}
use Rattle.bench.specs.declared.session.Stage.{Stage}
use Rattle.bench.proofs.SessionLaws.{lines_by, held_by, transcript_then}

-- ---- lines of two pieces

lines_then : (t xs ys : List ℕ) → lines_from t (xs ++ ys) ≡ lines_from t xs ++ lines_from (held_after t xs) ys
unfolding lines_from held_after
lines_then t [] ys = refl
lines_then t (x ∷ xs) ys =
    ⊎_elim
    (λ (q : eqb x 10 ≡ true). lines_by t x (xs ++ ys) true q ∙ ap (λ (ls : List (List ℕ)). t ∷ ls) (lines_then [] xs ys)
    ∙ sym (ap₂ (λ (ls : List (List ℕ)) (u : List ℕ). ls ++ lines_from u ys) (lines_by t x xs true q) (held_by t x xs true q)))
    (λ (q : eqb x 10 ≡ false). lines_by t x (xs ++ ys) false q ∙ lines_then (t ++ (x ∷ [])) xs ys
    ∙ sym (ap₂ (λ (ls : List (List ℕ)) (u : List ℕ). ls ++ lines_from u ys) (lines_by t x xs false q) (held_by t x xs false q)))
    (either_way (eqb x 10))

held_then : (t xs ys : List ℕ) → held_after t (xs ++ ys) ≡ held_after (held_after t xs) ys
unfolding held_after
held_then t [] ys = refl
held_then t (x ∷ xs) ys =
    ⊎_elim
    (λ (q : eqb x 10 ≡ true). held_by t x (xs ++ ys) true q ∙ held_then [] xs ys ∙ sym (ap (λ (u : List ℕ). held_after u ys) (held_by t x xs true q)))
    (λ (q : eqb x 10 ≡ false). held_by t x (xs ++ ys) false q ∙ held_then (t ++ (x ∷ [])) xs ys ∙ sym (ap (λ (u : List ℕ). held_after u ys) (held_by t x xs false q)))
    (either_way (eqb x 10))

-- ---- any pieces

-- the pieces one after another
unfoldable pub joined : List (List ℕ) → List ℕ
joined [] = []
joined (p ∷ ps) = p ++ joined ps

-- A session is fed some pieces in turn, each as `feed` promises, and what is written of them is written in turn.
pub data Fed : List (List ℕ) → Session → List ℕ → Session → Type 0 where
  none : {s : Session} → Fed [] s [] s
  piece : {p : List ℕ} {ps : List (List ℕ)} {s s'' : Session} {rest : List ℕ} (s' : Session) (n : ℕ) (out : List ℕ)
      → Feeds p s s' n out → Fed ps s' rest s'' → Fed (p ∷ ps) s (take n out ++ rest) s''

pub in_pieces : {ps : List (List ℕ)} {s s' : Session} {text : List ℕ} → Fed ps s text s' → (t : List ℕ) → Keeps s.line t
    → Transcript (lines_from t (joined ps)) s.stage s.room text s'.stage s'.room × Keeps s'.line (held_after t (joined ps))
unfolding joined lines_from held_after
in_pieces none t k = (no_lines, k)
in_pieces (piece {p} {ps} {s} {s''} {rest} u n out f fs) t k =
    let r = in_pieces fs (held_after t p) (f.keeps t k) in (
      subst (λ (ls : List (List ℕ)). Transcript ls s.stage s.room (take n out ++ rest) s''.stage s''.room) (sym (lines_then t p (joined ps)))
          (transcript_then (f.transcript t k) r.0),
      subst (Keeps s''.line) (sym (held_then t p (joined ps))) r.1,
    )

-- ---- the whole input

pub whole_input : {ps : List (List ℕ)} {s s' : Session} {text last : List ℕ} → Opened s → Fed ps s text s' → Closes s' last
    → Written (joined ps) s.room (columns_line ++ (text ++ last))
unfolding all_lines
whole_input {ps} {s} {s'} {text} {last} o f e =
    let begun : Keeps s.line [] = subst (λ (k : Option (List ℕ)). Keeps k []) (sym o.1) keeps-none in
    let r = in_pieces f [] begun in
    let first : Transcript (lines_from [] (joined ps)) Stage.MeasureNames s.room text s'.stage s'.room =
    subst (λ (k : Stage). Transcript (lines_from [] (joined ps)) k s.room text s'.stage s'.room) o.0 r.0 in
    record {
      stage = e.stage;
      shelf = e.shelf;
      text_of_lines = text ++ e.text_of_line;
      transcript = transcript_then first (e.ends (held_after [] (joined ps)) r.1);
      is = ap (λ (z : List ℕ). columns_line ++ z) (ap (λ (z : List ℕ). text ++ z) e.written ∙ sym (append_assoc text e.text_of_line (closing e.stage)));
    }

-- ---- refused measures

-- after refused measures every line is skipped
refused_all : (ls : List (List ℕ)) (h : Lent) → Transcript ls Stage.Refused h [] Stage.Refused h
unfolding Takes
refused_all [] h = no_lines
refused_all (l ∷ ls) h =
    let skipped : Takes l Stage.Refused h [] Stage.Refused h = record { written = refl; stage = refl; shelf = refl } in
    one_more [] Stage.Refused h skipped (refused_all ls h)

-- Where the measures are refused the program ends: whatever the rest of the input is, nothing is written of it.
pub refused_input : {ps : List (List ℕ)} {s s' : Session} {text : List ℕ} → Opened s → Fed ps s text s' → s'.stage ≡ Stage.Refused → (rest : List ℕ)
    → Written (joined ps ++ rest) s.room (columns_line ++ text)
unfolding all_lines closing
refused_input {ps} {s} {s'} {text} o f e rest =
    let h : Lent = s.room in
    let h' : Lent = s'.room in
    let input : List ℕ = joined ps in
    let begun : Keeps s.line [] = subst (λ (k : Option (List ℕ)). Keeps k []) (sym o.1) keeps-none in
    let first : Transcript (lines_from [] input) Stage.MeasureNames h text Stage.Refused h' =
    subst (λ (k : Stage). Transcript (lines_from [] input) k h text Stage.Refused h') o.0
    (subst (λ (k : Stage). Transcript (lines_from [] input) s.stage h text k h') e (in_pieces f [] begun).0) in
    let more : List (List ℕ) = lines_from (held_after [] input) rest in
    let last : List (List ℕ) = last_line (held_after [] (input ++ rest)) in
    let is : all_lines (input ++ rest) ≡ lines_from [] input ++ (more ++ last) =
    ap (λ (ls : List (List ℕ)). ls ++ last) (lines_then [] input rest) ∙ append_assoc (lines_from [] input) more last in
    record {
      stage = Stage.Refused;
      shelf = h';
      text_of_lines = text;
      transcript = subst (λ (z : List ℕ). Transcript (all_lines (input ++ rest)) Stage.MeasureNames h z Stage.Refused h') (append-nil text)
          (subst (λ (ls : List (List ℕ)). Transcript ls Stage.MeasureNames h (text ++ []) Stage.Refused h') (sym is) (transcript_then first (refused_all (more ++ last) h')));
      is = ap (λ (z : List ℕ). columns_line ++ z) (sym (append-nil text));
    }
