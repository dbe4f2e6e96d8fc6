-- Rows 1 to 3: what passing them says of the measures, the record, the lengths and the list.
-- Assumes nothing.
use mathlib.Core.Bool.{Bool, true, false, not, ◌&&◌, ◌||◌}
use mathlib.Core.List.{List}
use mathlib.Core.Logic.{◌≢◌}
use mathlib.Core.Path.{◌≡◌, refl, sym, ap, ap₂, subst}
use Prim.Native.Nat.{ℕ, ◌+◌, ◌-◌, ◌*◌, ◌≤◌, ◌<◌}
use native.Mathlib.Nat.{mul-le-mul}
use native.Mathlib.Omega.{arith}
use lib.Dec.{eqb, ltb}
use lib.ListN.{length}
use borrow.Author.Tests.{eq-eqb, le-ltb, eqb-true, ltb-false}
use Rattle.shelf.specs.Counting.{count, any}
use Rattle.shelf.specs.Members.{InRange, log_member, all_members}
use Rattle.shelf.specs.below.Records.{Sized}
use Rattle.shelf.specs.Status.{Call, code_of}
use Rattle.shelf.specs.Words.{words}
use Rattle.shelf.specs.below.Lists.{Measures}
use Rattle.shelf.specs.HashList.{valid}
use Rattle.shelf.specs.Lent.{flag_at, flag_from, outside, bad_measures, bad_record, bad_lengths, bad_list, array_length, log_length, list_length, tries_list, input_rows, listed_by, number_of}
use Rattle.shelf.specs.declared.record.Geometry.{Geometry}
use Rattle.shelf.specs.declared.record.Shelf.{Shelf}
use Rattle.shelf.proofs.numbers.TableRows.{row_zero, row_pass, row_same, row_below}
use Rattle.shelf.proofs.general.CountLaws.{count-more}
use Rattle.shelf.proofs.general.TestLaws.{not_off, and_fine, or_left, or_right}

-- ---- measures

inside : (low high x : ℕ) → outside low high x ≡ false → (low ≤ x) × (x ≤ high)
inside low high x e =
    let a = ltb-false x low (or_left (ltb x low) (ltb high x) e) in
    let b = ltb-false high x (or_right (ltb x low) (ltb high x) e) in
    (omega arith, omega arith)

pub in_range_lem : (g : Geometry) → bad_measures g ≡ false → InRange g
unfolding bad_measures
in_range_lem g bad =
    let t7 : Bool = ltb 1 g.layout || outside 1 2 g.parities in
    let t6 : Bool = outside 1 4096 g.e || t7 in
    let t5 : Bool = outside 1 256 g.h || t6 in
    let t4 : Bool = outside 1 65536 g.l || t5 in
    let t3 : Bool = outside 1 4096 g.b || t4 in
    let t2 : Bool = outside 1 65536 g.s || t3 in
    let e2 : t2 ≡ false = or_right (outside 2 16 g.d) t2 bad in
    let e3 : t3 ≡ false = or_right (outside 1 65536 g.s) t3 e2 in
    let e4 : t4 ≡ false = or_right (outside 1 4096 g.b) t4 e3 in
    let e5 : t5 ≡ false = or_right (outside 1 65536 g.l) t5 e4 in
    let e6 : t6 ≡ false = or_right (outside 1 256 g.h) t6 e5 in
    let e7 : t7 ≡ false = or_right (outside 1 4096 g.e) t7 e6 in
    let d = inside 2 16 g.d (or_left (outside 2 16 g.d) t2 bad) in
    let s = inside 1 65536 g.s (or_left (outside 1 65536 g.s) t3 e2) in
    let b = inside 1 4096 g.b (or_left (outside 1 4096 g.b) t4 e3) in
    let l = inside 1 65536 g.l (or_left (outside 1 65536 g.l) t5 e4) in
    let h = inside 1 256 g.h (or_left (outside 1 256 g.h) t6 e5) in
    let e = inside 1 4096 g.e (or_left (outside 1 4096 g.e) t7 e6) in
    let layout = ltb-false 1 g.layout (or_left (ltb 1 g.layout) (outside 1 2 g.parities) e7) in
    let k = inside 1 2 g.parities (or_right (ltb 1 g.layout) (outside 1 2 g.parities) e7) in
    record {
      d_least = d.0;
      d_most = d.1;
      s_least = s.0;
      s_most = s.1;
      b_least = b.0;
      b_most = b.1;
      l_least = l.0;
      l_most = l.1;
      h_least = h.0;
      h_most = h.1;
      e_least = e.0;
      e_most = e.1;
      layout_most = omega arith;
      parities_least = k.0;
      parities_most = k.1;
    }

pub sized : {g : Geometry} → InRange g → Sized g
sized Y = (Y.d_most, (Y.parities_least, Y.parities_most))

-- and back
fits_in : (low high x : ℕ) → low ≤ x → x ≤ high → outside low high x ≡ false
fits_in low high x a b = ap₂ ◌||◌ (le-ltb x low a) (le-ltb high x b)

pub measures-fine : (g : Geometry) → InRange g → bad_measures g ≡ false
unfolding bad_measures
measures-fine g Y =
    ap₂ ◌||◌ (fits_in 2 16 g.d Y.d_least Y.d_most) (ap₂ ◌||◌ (fits_in 1 65536 g.s Y.s_least Y.s_most)
    (ap₂ ◌||◌ (fits_in 1 4096 g.b Y.b_least Y.b_most) (ap₂ ◌||◌ (fits_in 1 65536 g.l Y.l_least Y.l_most)
    (ap₂ ◌||◌ (fits_in 1 256 g.h Y.h_least Y.h_most) (ap₂ ◌||◌ (fits_in 1 4096 g.e Y.e_least Y.e_most)
    (ap₂ ◌||◌ (le-ltb 1 g.layout Y.layout_most) (fits_in 1 2 g.parities Y.parities_least Y.parities_most)))))))

-- products of measures in range are no large numbers
pub array_small : (g : Geometry) → InRange g → ((g.d + g.parities) * g.s ≤ 1179648) × ((g.d + g.parities) * g.s * g.b ≤ 4831838208)
array_small g Y =
    let a : g.d + g.parities ≤ 18 = omega (arith, Y.d_most, Y.parities_most) in
    let b : (g.d + g.parities) * g.s ≤ 18 * 65536 = mul-le-mul a Y.s_most in
    let c : (g.d + g.parities) * g.s * g.b ≤ 18 * 65536 * 4096 = mul-le-mul b Y.b_most in
    (omega arith, omega arith)

pub log_small : (g : Geometry) → InRange g → g.l * g.b ≤ 268435456
log_small g Y = let a : g.l * g.b ≤ 65536 * 4096 = mul-le-mul Y.l_most Y.b_most in omega arith

-- ---- the record: row 1, test by test

pub record Fine (r : Shelf) : Type 0 where
  pub modes : ltb 2 r.mode ≡ false
  pub above : any 19 (flag_from r.failed (all_members r.geometry)) ≡ false
  pub few : ltb r.geometry.parities (count 19 (flag_at r)) ≡ false
  pub room : ltb r.geometry.l r.next ≡ false
  pub fits : ltb r.geometry.e r.listed ≡ false
  pub idle : (eqb r.listed 0 && ltb 0 r.next) ≡ false
  pub normal : (eqb r.mode 0 && ltb 0 r.listed) ≡ false
  pub transitional : (eqb r.mode 2 && eqb r.listed 0) ≡ false
  pub accelerating : (eqb r.mode 1 && flag_at r (log_member r.geometry)) ≡ false

pub record_fine : (r : Shelf) → Fine r → bad_record r ≡ false
unfolding bad_record
record_fine r F =
    ap₂ ◌||◌ F.modes (ap₂ ◌||◌ F.above (ap₂ ◌||◌ F.few (ap₂ ◌||◌ F.room (ap₂ ◌||◌ F.fits
    (ap₂ ◌||◌ F.idle (ap₂ ◌||◌ F.normal (ap₂ ◌||◌ F.transitional F.accelerating)))))))

pub fine_record : (r : Shelf) → bad_record r ≡ false → Fine r
unfolding bad_record
fine_record r bad =
    let t9 : Bool = eqb r.mode 1 && flag_at r (log_member r.geometry) in
    let t8 : Bool = (eqb r.mode 2 && eqb r.listed 0) || t9 in
    let t7 : Bool = (eqb r.mode 0 && ltb 0 r.listed) || t8 in
    let t6 : Bool = (eqb r.listed 0 && ltb 0 r.next) || t7 in
    let t5 : Bool = ltb r.geometry.e r.listed || t6 in
    let t4 : Bool = ltb r.geometry.l r.next || t5 in
    let t3 : Bool = ltb r.geometry.parities (count 19 (flag_at r)) || t4 in
    let t2 : Bool = any 19 (flag_from r.failed (all_members r.geometry)) || t3 in
    let e2 : t2 ≡ false = or_right (ltb 2 r.mode) t2 bad in
    let e3 : t3 ≡ false = or_right (any 19 (flag_from r.failed (all_members r.geometry))) t3 e2 in
    let e4 : t4 ≡ false = or_right (ltb r.geometry.parities (count 19 (flag_at r))) t4 e3 in
    let e5 : t5 ≡ false = or_right (ltb r.geometry.l r.next) t5 e4 in
    let e6 : t6 ≡ false = or_right (ltb r.geometry.e r.listed) t6 e5 in
    let e7 : t7 ≡ false = or_right (eqb r.listed 0 && ltb 0 r.next) t7 e6 in
    let e8 : t8 ≡ false = or_right (eqb r.mode 0 && ltb 0 r.listed) t8 e7 in
    record {
      modes = or_left (ltb 2 r.mode) t2 bad;
      above = or_left (any 19 (flag_from r.failed (all_members r.geometry))) t3 e2;
      few = or_left (ltb r.geometry.parities (count 19 (flag_at r))) t4 e3;
      room = or_left (ltb r.geometry.l r.next) t5 e4;
      fits = or_left (ltb r.geometry.e r.listed) t6 e5;
      idle = or_left (eqb r.listed 0 && ltb 0 r.next) t7 e6;
      normal = or_left (eqb r.mode 0 && ltb 0 r.listed) t8 e7;
      transitional = or_left (eqb r.mode 2 && eqb r.listed 0) t9 e8;
      accelerating = or_right (eqb r.mode 2 && eqb r.listed 0) t9 e8;
    }

-- of the first n flags no more are set than there are parities
pub few-flags : (r : Shelf) → bad_record r ≡ false → (n : ℕ) → n ≤ 19 → count n (flag_at r) ≤ r.geometry.parities
few-flags r fine n h =
    let few = ltb-false r.geometry.parities (count 19 (flag_at r)) (fine_record r fine).few in
    let all : n + (19 - n) ≡ 19 = omega arith in
    omega (arith, few, subst (λ (m : ℕ). count n (flag_at r) ≤ count m (flag_at r)) all (count-more n (19 - n) (flag_at r)))

-- ---- all that passing says

pub record Passed (r : Shelf) (na nl : ℕ) (l : List ℕ) : Type 0 where
  pub range : InRange r.geometry
  pub fine : bad_record r ≡ false
  pub array : na ≡ array_length r.geometry
  pub log : nl ≡ log_length r.geometry
  pub list : length l ≡ list_length r.geometry
  pub valid : valid (words l) r.geometry r.next r.listed ≡ true

pub lengths_pass : (g : Geometry) (na nl nt : ℕ) → bad_lengths g na nl nt ≡ false → (na ≡ array_length g) × ((nl ≡ log_length g) × (nt ≡ list_length g))
unfolding bad_lengths
lengths_pass g na nl nt e =
    let a : Bool = not (eqb na (array_length g)) in
    let b : Bool = not (eqb nl (log_length g)) in
    let c : Bool = not (eqb nt (list_length g)) in
    let q : (b || c) ≡ false = or_right a (b || c) e in (
      eqb-true na (array_length g) (not_off (eqb na (array_length g)) (or_left a (b || c) e)),
      (
        eqb-true nl (log_length g) (not_off (eqb nl (log_length g)) (or_left b c q)),
        eqb-true nt (list_length g) (not_off (eqb nt (list_length g)) (or_right b c q)),
      ),
    )

-- and back
pub lengths-fine : (g : Geometry) (na nl nt : ℕ) → na ≡ array_length g → nl ≡ log_length g → nt ≡ list_length g → bad_lengths g na nl nt ≡ false
unfolding bad_lengths
lengths-fine g na nl nt a l t =
    ap₂ ◌||◌ (ap not (eq-eqb na (array_length g) a)) (ap₂ ◌||◌ (ap not (eq-eqb nl (log_length g) l)) (ap not (eq-eqb nt (list_length g) t)))

-- none of them applies, nor does what is tried after them
inputs_zero : (r : Shelf) (na nl : ℕ) (l : List ℕ) (three : Bool) (rest : ℕ) → input_rows r na nl l three rest ≡ 0
    → (bad_measures r.geometry ≡ false) × ((bad_record r ≡ false) × ((bad_lengths r.geometry na nl (length l) ≡ false) × (((three && bad_list r l) ≡ false) × (rest ≡ 0))))
unfolding input_rows
inputs_zero r na nl l three rest e =
    let a = row_zero 1 (bad_measures r.geometry) _ (λ z. omega arith) e in
    let b = row_zero 1 (bad_record r) _ (λ z. omega arith) a.1 in
    let c = row_zero 2 (bad_lengths r.geometry na nl (length l)) _ (λ z. omega arith) b.1 in
    (a.0, (b.0, (c.0, row_zero 3 (three && bad_list r l) rest (λ z. omega arith) c.1)))

pub inputs_pass : (r : Shelf) (na nl : ℕ) (l : List ℕ) (rest : ℕ) → input_rows r na nl l true rest ≡ 0 → Passed r na nl l × (rest ≡ 0)
inputs_pass r na nl l rest e =
    let z = inputs_zero r na nl l true rest e in
    let n = lengths_pass r.geometry na nl (length l) z.1.1.0 in (
      record {
        range = in_range_lem r.geometry z.0;
        fine = z.1.0;
        array = n.0;
        log = n.1.0;
        list = n.1.1;
        valid = not_off (valid (words l) r.geometry r.next r.listed) z.1.1.1.0;
      },
      z.1.1.1.1,
    )

-- an accepted call passes the rows after 1 to 3 too
pub inputs_rest : (r : Shelf) (na nl : ℕ) (l : List ℕ) (three : Bool) (rest : ℕ) → input_rows r na nl l three rest ≡ 0 → rest ≡ 0
inputs_rest r na nl l three rest e = (inputs_zero r na nl l three rest e).1.1.1.1

-- the rows after 1 to 3 are tried where those pass, and only there
pub inputs_then : (r : Shelf) (na nl : ℕ) (l : List ℕ) (three : Bool) (rest : ℕ) → input_rows r na nl l three 0 ≡ 0 → input_rows r na nl l three rest ≡ rest
unfolding input_rows
inputs_then r na nl l three rest e =
    let z = inputs_zero r na nl l three 0 e in
    sym (row_pass 1 (bad_measures r.geometry) _ rest z.0 (row_pass 1 (bad_record r) _ rest z.1.0
    (row_pass 2 (bad_lengths r.geometry na nl (length l)) _ rest z.1.1.0 (row_pass 3 (three && bad_list r l) rest rest z.1.1.1.0 refl))))

pub inputs_refuse : (r : Shelf) (na nl : ℕ) (l : List ℕ) (three : Bool) (rest : ℕ) → input_rows r na nl l three 0 ≢ 0
    → input_rows r na nl l three 0 ≡ input_rows r na nl l three rest
unfolding input_rows
inputs_refuse r na nl l three rest e =
    sym (row_same 1 (bad_measures r.geometry) _ _ (λ z. omega arith)
    (row_same 1 (bad_record r) _ _ (λ z. omega arith)
    (row_same 2 (bad_lengths r.geometry na nl (length l)) _ _ (λ z. omega arith)
    (row_same 3 (three && bad_list r l) 0 rest (λ z. omega arith) (λ z. absurd (z refl))))) e)

-- they give no number above 3
pub inputs_low : (r : Shelf) (na nl : ℕ) (l : List ℕ) (three : Bool) → input_rows r na nl l three 0 < 4
unfolding input_rows
inputs_low r na nl l three =
    row_below 1 4 _ _ (omega arith) (row_below 1 4 _ _ (omega arith) (row_below 2 4 _ _ (omega arith) (row_below 3 4 _ 0 (omega arith) (omega arith))))

-- where they pass, a call's number is that of its own rows
pub passed_number : (r : Shelf) (na nl : ℕ) (l : List ℕ) → Passed r na nl l → (c : Call)
    → number_of r na nl l c ≡ code_of r.geometry (flag_at r) r.mode (listed_by r.geometry l) c
unfolding number_of input_rows
passed_number r na nl l P c =
    sym (row_pass 1 (bad_measures r.geometry) _ _ (measures-fine r.geometry P.range) (row_pass 1 (bad_record r) _ _ P.fine
    (row_pass 2 (bad_lengths r.geometry na nl (length l)) _ _ (lengths-fine r.geometry na nl (length l) P.array P.log P.list)
    (row_pass 3 (tries_list c && bad_list r l) _ _ (and_fine (tries_list c) (bad_list r l) (λ _. ap not P.valid)) refl))))

-- what the list's functions ask
pub measures_of_lem : (g : Geometry) (l : List ℕ) → InRange g → length l ≡ list_length g → Measures g l
measures_of_lem g l Y e =
    record {
      d0 = omega (arith, Y.d_least);
      d1 = Y.d_most;
      s1 = Y.s_most;
      h0 = omega (arith, Y.h_least);
      h1 = Y.h_most;
      e0 = Y.e_least;
      e1 = Y.e_most;
      len = omega (arith, e);
    }
