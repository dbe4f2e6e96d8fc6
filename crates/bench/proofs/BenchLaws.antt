-- Laws of the room that the bench program has, of the data of a call, and of what comes of a request.
-- Assumes nothing.
use mathlib.Core.Bool.{Bool, true, false, not}
use mathlib.Core.List.{List}
use mathlib.Core.Path.{◌≡◌, refl, sym, ap, ap₂, ◌∙◌, subst}
use Prim.Native.Nat.{ℕ, zero, suc, ◌+◌, ◌*◌, ◌≤◌, ◌<◌}
use native.Mathlib.Decide.{dec_lt}
use native.Mathlib.Nat.{mul-le-mul_right}
use native.Mathlib.Omega.{arith}
use lib.Dec.{leb}
use lib.ListN.{length, get_or, replicate}
use borrow.Author.Tests.{lt-ltb, le-leb, leb-true, not-true, ne_eqb}
use Rattle.std.specs.Prelude.{Option, Some, None}
use Rattle.lines.specs.declared.requests.Request.{Request}
use Rattle.lines.proofs.TestLaws.{and_left, and_right}
use Rattle.shelf.specs.Members.{InRange}
use Rattle.shelf.specs.Status.{Call, write, read, fetch, bad_address, code_of}
use Rattle.shelf.specs.Lent.{Lent, flag_at, listed_by, bad_measures, array_length, log_length, list_length, tries_list, input_rows, number_of, Answered}
use Rattle.shelf.specs.declared.record.Geometry.{Geometry}
use Rattle.shelf.specs.declared.record.Shelf.{Shelf}
use Rattle.shelf.proofs.general.TestLaws.{or_true}
use Rattle.shelf.proofs.numbers.TableRows.{row_hit, row_other}
use Rattle.shelf.proofs.numbers.InputLaws.{in_range_lem}
use Rattle.shelf.proofs.lent.Holding.{answered_geometry}
use Rattle.bench.specs.Bench.{fits, data_length, read_call, first_read, Performed}

-- ---- the shelf's buffers

pub too_bad : (g : Geometry) → bad_measures g ≡ true → false ≡ fits g
unfolding fits
too_bad g e = simp e

pub fits_by : (g : Geometry) {t : Bool} → bad_measures g ≡ false → t ≡ leb (array_length g + log_length g + list_length g) 32768 → t ≡ fits g
unfolding fits
fits_by g e l = l ∙ simp e

-- what fits is in range, and has room
pub fitting : (g : Geometry) → fits g ≡ true → InRange g × (array_length g + log_length g + list_length g ≤ 32768)
unfolding fits
fitting g t =
    let bad : not (bad_measures g) ≡ true = and_left (not (bad_measures g)) _ t in
    let room : leb (array_length g + log_length g + list_length g) 32768 ≡ true = and_right (not (bad_measures g)) _ t in
    (in_range_lem g (not-true (bad_measures g) bad), leb-true (array_length g + log_length g + list_length g) 32768 room)

-- ---- what is lent for the data of a call, and what is found there

-- the first byte of an accepted read
pub first_found : (code : ℕ) (part got : List ℕ) → (code ≡ 0 → part ≡ got) → first_read code part ≡ first_read code got
unfolding first_read
first_found zero part got same = ap (λ (xs : List ℕ). get_or xs 0 0) (same refl)
first_found (suc code) part got same = simp (ne_eqb (suc code) 0 (λ e. omega arith))

-- each of the three buffers has room for its part
pub rooms : (g : Geometry) → fits g ≡ true → (array_length g ≤ 32768) × ((log_length g ≤ 32768) × (list_length g ≤ 32768))
rooms g t = sums (array_length g) (log_length g) (list_length g) (fitting g t).1
  where
    sums : (a l t : ℕ) → a + l + t ≤ 32768 → (a ≤ 32768) × ((l ≤ 32768) × (t ≤ 32768))
    sums a l t h = (omega arith, (omega arith, omega arith))

pub part_within : (n m : ℕ) (bytes : List ℕ) → n ≡ m → m ≤ 32768 → length bytes ≡ 32768 → n ≤ length bytes
part_within n m bytes e h l = omega arith

-- ---- a call for more blocks than the shelf has

few-blocks : (g : Geometry) (a count : ℕ) → fits g ≡ true → 32768 < count * g.b → bad_address g a count ≡ true
few-blocks g a count t h =
    let room : array_length g ≤ 32768 = (rooms g t).0 in
    let part : g.d * g.s * g.b ≤ (g.d + g.parities) * g.s * g.b = mul-le-mul_right g.b (mul-le-mul_right g.s (omega arith)) in
    let more : g.d * g.s < a + count =
    elim (dec_lt (g.d * g.s) count) [
      | yes l ↦ omega arith
      | no q ↦ absurd (let k : count * g.b ≤ g.d * g.s * g.b = mul-le-mul_right g.b (omega arith) in omega arith)
    ] in
    simp (lt-ltb (g.d * g.s) (a + count) more, or_true)

-- the number by the rows of a call
rows_of : Lent → Call → ℕ
rows_of h c = code_of h.shelf.geometry (flag_at h.shelf) h.shelf.mode (listed_by h.shelf.geometry h.list) c

-- two calls that test the list and get 4 by their rows are answered alike
answered_alike : (h : Lent) (c c' : Call) (code : ℕ) (h' : Lent) → tries_list c ≡ true → tries_list c' ≡ true → rows_of h c ≡ 4 → rows_of h c' ≡ 4
    → Answered h c code h' → Answered h c' code h'
unfolding number_of input_rows rows_of
answered_alike h c c' code h' t t' e e' x =
    let r : Shelf = h.shelf in
    let n : (q : Call) → tries_list q ≡ true → rows_of h q ≡ 4
    → number_of r (length h.array) (length h.log) h.list q ≡ input_rows r (length h.array) (length h.log) h.list true 4 =
    λ q u f. ap₂ (λ (b : Bool) (k : ℕ). input_rows r (length h.array) (length h.log) h.list b k) u f in
    let some : code ≡ 0 → ⊥ = λ z.
    row_other 1 0 _ _ (λ _ k. omega arith) (λ _. row_other 1 0 _ _ (λ _ k. omega arith) (λ _. row_other 2 0 _ _ (λ _ k. omega arith)
    (λ _. row_other 3 0 _ _ (λ _ k. omega arith) (λ _ (k : ◌≡◌ {A = ℕ} 4 0). omega arith))))
    (sym (n c t e) ∙ sym x.number ∙ z) in
    record {
      number = x.number ∙ n c t e ∙ sym (n c' t' e');
      done = λ z. absurd (some z);
      refused = x.refused;
    }

-- a write with the data that are lent is one with the data that are asked for, and so is a read
pub write_as_asked : (h : Lent) (a count v code : ℕ) (bytes : List ℕ) (h' : Lent) → fits h.shelf.geometry ≡ true
    → bytes ≡ replicate (data_length count h.shelf.geometry.b 32768) v → Answered h (write a count bytes) code h'
    → Answered h (write a count (replicate (count * h.shelf.geometry.b) v)) code h'
unfolding data_length rows_of code_of tries_list
write_as_asked h a count v code bytes h' t e x =
    let g : Geometry = h.shelf.geometry in
    elim (dec_lt 32768 (count * g.b)) [
      | yes m ↦
          let bad : bad_address g a count ≡ true = few-blocks g a count t (omega arith) in
          answered_alike h (write a count bytes) (write a count (replicate (count * g.b) v)) code h' refl refl
          (sym (row_hit 4 (bad_address g a count) _ bad)) (sym (row_hit 4 (bad_address g a count) _ bad)) x
      | no q ↦ subst (λ (d : List ℕ). Answered h (write a count d) code h') (e ∙ simp (le-leb (count * g.b) 32768 (omega arith))) x
    ]

-- either read tests the list, and gets 4 for its address
read_tries : (t : Bool) (a count k : ℕ) → tries_list (read_call t a count k) ≡ true
unfolding tries_list
read_tries true a count k = refl
read_tries false a count k = refl

read_four : (t : Bool) (h : Lent) (a count k : ℕ) → bad_address h.shelf.geometry a count ≡ true → rows_of h (read_call t a count k) ≡ 4
unfolding rows_of code_of
read_four true h a count k bad = sym (row_hit 4 (bad_address h.shelf.geometry a count) _ bad)
read_four false h a count k bad = sym (row_hit 4 (bad_address h.shelf.geometry a count) _ bad)

pub read_as_asked : (t : Bool) (h : Lent) (a count m code : ℕ) (h' : Lent) → fits h.shelf.geometry ≡ true
    → m ≡ data_length count h.shelf.geometry.b 32768 → Answered h (read_call t a count m) code h'
    → Answered h (read_call t a count (count * h.shelf.geometry.b)) code h'
unfolding data_length
read_as_asked t h a count m code h' f e x =
    let g : Geometry = h.shelf.geometry in
    elim (dec_lt 32768 (count * g.b)) [
      | yes k ↦
          let bad : bad_address g a count ≡ true = few-blocks g a count f (omega arith) in
          answered_alike h (read_call t a count m) (read_call t a count (count * g.b)) code h' (read_tries t a count m) (read_tries t a count (count * g.b))
          (read_four t h a count m bad) (read_four t h a count (count * g.b) bad) x
      | no q ↦ subst (λ (d : ℕ). Answered h (read_call t a count d) code h') (e ∙ simp (le-leb (count * g.b) 32768 (omega arith))) x
    ]

-- the plain read alone, and the recovering one alone
pub plain_as_asked : (h : Lent) (a count m code : ℕ) (h' : Lent) → fits h.shelf.geometry ≡ true
    → m ≡ data_length count h.shelf.geometry.b 32768 → Answered h (read a count m) code h'
    → Answered h (read a count (count * h.shelf.geometry.b)) code h'
plain_as_asked = read_as_asked false

pub fetch_as_asked : (h : Lent) (a count m code : ℕ) (h' : Lent) → fits h.shelf.geometry ≡ true
    → m ≡ data_length count h.shelf.geometry.b 32768 → Answered h (fetch a count m) code h'
    → Answered h (fetch a count (count * h.shelf.geometry.b)) code h'
fetch_as_asked = read_as_asked true

-- ---- the geometry stays

pub performed-geometry : (q : Option Request) (h : Lent) (code first : ℕ) (h' : Lent) → Performed q h code first h' → h'.shelf.geometry ≡ h.shelf.geometry
unfolding Performed
performed-geometry (Some Request.Start) h code first h' p = answered_geometry h _ code h' p.0
performed-geometry (Some (Request.Write a n v)) h code first h' p = answered_geometry h _ code h' p.0
performed-geometry (Some (Request.Read a n)) h code first h' p = answered_geometry h _ code h' p.0
performed-geometry (Some (Request.Fetch a n)) h code first h' p = answered_geometry h _ code h' p.0
performed-geometry (Some (Request.Fail j)) h code first h' p = answered_geometry h _ code h' p.0
performed-geometry (Some Request.Resync) h code first h' p = answered_geometry h _ code h' p.0
performed-geometry (Some Request.Rebuild) h code first h' p = answered_geometry h _ code h' p.0
performed-geometry (Some Request.NewLog) h code first h' p = answered_geometry h _ code h' p.0
performed-geometry (Some Request.FullResync) h code first h' p = answered_geometry h _ code h' p.0
performed-geometry None h code first h' p = ap (λ (k : Lent). k.shelf.geometry) p.1.1
