-- Laws of one line of a session: what is lent of the program's buffers, a shelf that is set up, a call that is answered.
-- Assumes nothing.
use mathlib.Core.Bool.{true, false, not, false≢true}
use mathlib.Core.List.{List, [], ◌++◌}
use mathlib.Core.Path.{◌≡◌, refl, sym, ap, ◌∙◌, subst}
use Prim.Native.Nat.{ℕ, ◌≤◌}
use native.Mathlib.Omega.{arith}
use lib.ListN.{length, take, drop}
use lib.Seq.{length-take-le, take_at}
use borrow.Author.Tests.{eq-eqb, not-true}
use Rattle.lines.specs.MeasureLines.{measures_line}
use Rattle.lines.specs.RequestLines.{request_line}
use Rattle.lines.specs.AnswerLines.{answer_line, format_line}
use Rattle.lines.specs.Walking.{Puts}
use Rattle.lines.specs.declared.measures.Measures.{Measures}
use Rattle.std.specs.Prelude.{Option, Some, None}
use Rattle.lines.specs.declared.requests.Request.{Request}
use Rattle.lines.proofs.AnswerLaws.{puts_front, puts_within}
use Rattle.lines.proofs.TestLaws.{and_left}
use Rattle.shelf.specs.Counting.{choose}
use Rattle.shelf.specs.Status.{row}
use Rattle.shelf.specs.Lent.{Lent, lent, array_length, log_length, list_length, bad_measures, bad_lengths, format_code, formatted, format_leaves}
use Rattle.shelf.specs.declared.record.Geometry.{Geometry}
use Rattle.shelf.specs.declared.record.Shelf.{Shelf}
use Rattle.bench.specs.Bench.{geometry_of, fits, lent_parts, Performed, answer_of}
use Rattle.bench.specs.Sessions.{format_number, Opens, Answers, Takes, Taking}
use Rattle.bench.specs.declared.session.Session.{Session}
use Rattle.bench.specs.declared.session.Stage.{Stage}
use Rattle.bench.proofs.BenchLaws.{performed-geometry}

-- ---- parts of the buffers

-- a shelf in the first bytes of its buffers
pub parts-back : (r : Shelf) (a l t x y z : List ℕ) → length a ≡ array_length r.geometry → length l ≡ log_length r.geometry → length t ≡ list_length r.geometry
    → lent_parts r (a ++ x) (l ++ y) (t ++ z) ≡ lent r a l t
parts-back r a l t x y z ha hl ht = λ i. record {
  shelf = r;
  array = take_at a x (array_length r.geometry) ha i;
  log = take_at l y (log_length r.geometry) hl i;
  list = take_at t z (list_length r.geometry) ht i;
}

-- The lengths of the parts of three buffers that are lent for a geometry, and of what is left in them.
pub record Parts (g : Geometry) (a l t : ℕ) (array log list pa pl pt : List ℕ) : Type 0 where
  pub a_is : a ≡ array_length g
  pub l_is : l ≡ log_length g
  pub t_is : t ≡ list_length g
  pub a_kept : length pa ≡ length (take a array)
  pub l_kept : length pl ≡ length (take l log)
  pub t_kept : length pt ≡ length (take t list)
  pub a_room : a ≤ length array
  pub l_room : l ≤ length log
  pub t_room : t ≤ length list

module _ {g : Geometry} {a l t : ℕ} {array log list pa pl pt : List ℕ} (P : Parts g a l t array log list pa pl pt) where
  left_back : (r : Shelf) → r.geometry ≡ g → lent_parts r (pa ++ drop a array) (pl ++ drop l log) (pt ++ drop t list) ≡ lent r pa pl pt
  left_back r e =
      parts-back r pa pl pt (drop a array) (drop l log) (drop t list)
      (P.a_kept ∙ length-take-le a array P.a_room ∙ P.a_is ∙ ap (λ (k : Geometry). array_length k) (sym e))
      (P.l_kept ∙ length-take-le l log P.l_room ∙ P.l_is ∙ ap (λ (k : Geometry). log_length k) (sym e))
      (P.t_kept ∙ length-take-le t list P.t_room ∙ P.t_is ∙ ap (λ (k : Geometry). list_length k) (sym e))

  lent_is : (r : Shelf) → r.geometry ≡ g → lent r (take a array) (take l log) (take t list) ≡ lent_parts r array log list
  lent_is r e = λ i. record {
    shelf = r;
    array = take ((P.a_is ∙ ap (λ (k : Geometry). array_length k) (sym e)) i) array;
    log = take ((P.l_is ∙ ap (λ (k : Geometry). log_length k) (sym e)) i) log;
    list = take ((P.t_is ∙ ap (λ (k : Geometry). list_length k) (sym e)) i) list;
  }

  -- a request that is performed on the parts
  pub performed_in : (q : Option Request) (r r' : Shelf) (code first : ℕ) → r.geometry ≡ g
      → Performed q (lent r (take a array) (take l log) (take t list)) code first (lent r' pa pl pt)
      → Performed q (lent_parts r array log list) code first (lent_parts r' (pa ++ drop a array) (pl ++ drop l log) (pt ++ drop t list))
  performed_in q r r' code first e p =
      let same : r'.geometry ≡ g = performed-geometry q _ code first _ p ∙ e in
      subst (λ (k : Lent). Performed q k code first (lent_parts r' (pa ++ drop a array) (pl ++ drop l log) (pt ++ drop t list))) (lent_is r e)
      (subst (Performed q (lent r (take a array) (take l log) (take t list)) code first) (sym (left_back r' same)) p)

  fine-lengths : bad_lengths g (length (take a array)) (length (take l log)) (length (take t list)) ≡ false
  unfolding bad_lengths
  fine-lengths =
      simp (
        eq-eqb (length (take a array)) (array_length g) (length-take-le a array P.a_room ∙ P.a_is),
        eq-eqb (length (take l log)) (log_length g) (length-take-le l log P.l_room ∙ P.l_is),
        eq-eqb (length (take t list)) (list_length g) (length-take-le t list P.t_room ∙ P.t_is),
      )

  -- a shelf that fits, formatted in the parts
  pub formatted_in : (r r' : Shelf) → r.geometry ≡ g → fits g ≡ true
      → lent r' pa pl pt ≡ format_leaves (lent r (take a array) (take l log) (take t list))
      → lent_parts r' (pa ++ drop a array) (pl ++ drop l log) (pt ++ drop t list) ≡ formatted g
  unfolding format_leaves format_code row choose fits formatted
  formatted_in r r' e f p =
      let bad : bad_measures g ≡ false = not-true (bad_measures g) (and_left (not (bad_measures g)) _ f) in
      let is : format_leaves (lent r (take a array) (take l log) (take t list)) ≡ formatted g = rw e (simp (bad, fine-lengths)) in
      let made : lent r' pa pl pt ≡ formatted g = p ∙ is in
      left_back r' (ap (λ (h : Lent). h.shelf.geometry) made) ∙ made

-- ---- measures

pub number_refused : (m : Option Measures) → fits (geometry_of m) ≡ false → format_number m ≡ 1
unfolding format_number
number_refused (Some m) f = simp f
number_refused None f = refl

pub number_made : (m : Option Measures) → fits (geometry_of m) ≡ true → format_number m ≡ 0
unfolding format_number fits bad_measures geometry_of
number_made (Some m) f = simp f
number_made None f = absurd (false≢true f)

pub opens_refused : (line : List ℕ) (h : Lent) (r : Session) (n : ℕ) (out fin : List ℕ) → length out ≡ 128 → length fin ≡ length out
    → fits (geometry_of (measures_line line)) ≡ false → Puts out 0 (format_line 1) fin n → r.stage ≡ Stage.Refused → r.room ≡ h → Taking (Opens line h) r n fin
unfolding choose
opens_refused line h r n out fin room kept f put s e =
    let k : format_number (measures_line line) ≡ 1 = number_refused (measures_line line) f in
    record {
      made = record {
        written = puts_front put ∙ ap format_line (sym k);
        stage = rw k s;
        shelf = rw k e;
      };
      few = omega (arith, puts_within put kept);
    }

pub opens_made : (line : List ℕ) (h : Lent) (r : Session) (n : ℕ) (out fin : List ℕ) → length out ≡ 128 → length fin ≡ length out
    → fits (geometry_of (measures_line line)) ≡ true → Puts out 0 (format_line 0) fin n → r.stage ≡ Stage.CallNames
    → r.room ≡ formatted (geometry_of (measures_line line)) → Taking (Opens line h) r n fin
unfolding choose
opens_made line h r n out fin room kept f put s e =
    let k : format_number (measures_line line) ≡ 0 = number_made (measures_line line) f in
    record {
      made = record {
        written = puts_front put ∙ ap format_line (sym k);
        stage = rw k s;
        shelf = rw k e;
      };
      few = omega (arith, puts_within put kept);
    }

-- a fresh shelf has the geometry that it was made for
pub formatted-fits : (g : Geometry) → fits g ≡ true → fits (formatted g).shelf.geometry ≡ true
unfolding formatted
formatted-fits g f = f

-- ---- a call

pub answers_made : (line : List ℕ) (h : Lent) (r : Session) (q : Option Request) (code first n : ℕ) (out fin : List ℕ) → length out ≡ 128
    → length fin ≡ length out → q ≡ request_line line → Performed q h code first r.room
    → Puts out 0 (answer_line q (answer_of (record { code = code; first = first; shelf = r.room.shelf }))) fin n → r.stage ≡ Stage.Calls
    → Taking (Answers line h) r n fin
answers_made line h r q code first n out fin room kept e p put s =
    record {
      made = record {
        code = code;
        first = first;
        performed = subst (λ (k : Option Request). Performed k h code first r.room) e p;
        written = puts_front put ∙ ap (λ (k : Option Request). answer_line k (answer_of (record { code = code; first = first; shelf = r.room.shelf }))) e;
        stage = s;
      };
      few = omega (arith, puts_within put kept);
    }

-- after refused measures a line is skipped
pub refused_made : (line : List ℕ) (r : Session) (out : List ℕ) → r.stage ≡ Stage.Refused → Taking (Takes line r.stage r.room) r 0 out
unfolding Takes
refused_made line r out e =
    let refused : Takes line Stage.Refused r.room [] r.stage r.room = record { written = refl; stage = e; shelf = refl } in
    record { made = subst (λ (s : Stage). Takes line s r.room [] r.stage r.room) (sym e) refused; few = omega arith }
