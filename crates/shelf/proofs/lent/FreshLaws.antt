-- A fresh shelf, as format leaves it: it is the fresh state, laid out, and it is clean, beside a fresh book.
-- Assumes nothing.
use mathlib.Core.Bool.{false}
use mathlib.Core.List.{List, []}
use mathlib.Core.Path.{◌≡◌, refl, sym, ap, ◌∙◌, subst, fun_ext}
use Prim.Native.Nat.{ℕ, zero, suc, ◌+◌, ◌*◌, ◌<◌}
use native.Mathlib.Omega.{arith}
use lib.ListN.{length, get_or, replicate, length-replicate}
use lib.Seq.{ext_get_or}
use borrow.Author.Tests.{le-ltb}
use Rattle.stripe.specs.Blocks.{block, gen}
use Rattle.stripe.proofs.Laws.{length-block, get_or-block, length-gen, get_or-gen, fits, place_lt}
use Rattle.shelf.specs.Counting.{count, bit}
use Rattle.shelf.specs.Members.{InRange, array_members, parity_role, blank, address_of, place_at}
use Rattle.shelf.specs.State.{fresh_state, is_some}
use Rattle.shelf.specs.Book.{fresh_book}
use Rattle.shelf.specs.Words.{words}
use Rattle.shelf.specs.HashList.{none_word, Entry, said, valid, encode}
use Rattle.shelf.specs.Lent.{flag, record_at, array_block, bad_record, array_length, log_length, list_length, flags_from, role_block, fresh_record, none_list, formatted, Leaves}
use Rattle.shelf.specs.Clean.{Clean}
use Rattle.shelf.specs.declared.record.Geometry.{Geometry}
use Rattle.shelf.proofs.numbers.FailureLaws.{above-fine}
use Rattle.shelf.proofs.numbers.InputLaws.{measures-fine, record_fine, lengths-fine}
use Rattle.shelf.proofs.hashlist.WordLaws.{words-bytes}
use Rattle.shelf.proofs.lent.FormatLaws.{none-bytes}
use Rattle.shelf.proofs.hashlist.ListMeaning.{encode-none, none-valid, none_said}
use Rattle.shelf.specs.below.Showing.{HoldsList}
use Rattle.shelf.proofs.hashlist.ListMarks.{none_record}
use Rattle.shelf.proofs.lent.ListLayout.{list_laid}
use Rattle.shelf.proofs.lent.LayoutLaws.{array-is, log_is, role_data, role_parity, by_role}
use Rattle.shelf.proofs.agreement.ListedLaws.{no_marks_lem}
use Rattle.shelf.proofs.agreement.RowParity.{blank_parity, blank-block}

-- ---- zeros

byte_zeros : (n j : ℕ) → get_or {A = ℕ} (replicate n 0) j 0 ≡ 0
byte_zeros zero j = refl
byte_zeros (suc n) zero = refl
byte_zeros (suc n) (suc j) = byte_zeros n j

-- a block of zeros
block-zeros : (g : Geometry) (n N : ℕ) → n < N → block g.b n (replicate (N * g.b) 0) ≡ blank g
unfolding blank
block-zeros g n N h =
    let z : List ℕ = replicate (N * g.b) 0 in
    let room = fits n N g.b (replicate (N * g.b) 0) (length-replicate (N * g.b) 0) h in
    let len = length-block g.b n (replicate (N * g.b) 0) room in
    ext_get_or 0 (block g.b n (replicate (N * g.b) 0)) (gen g.b (λ _. 0)) (len ∙ sym (length-gen g.b (λ _. 0)))
    (λ j p. let q : j < g.b = omega (arith, len) in
    get_or-block g.b n (replicate (N * g.b) 0) j q ∙ byte_zeros (N * g.b) (n * g.b + j) ∙ sym (get_or-gen g.b (λ _. 0) j q))

array-zeros : (g : Geometry) (x i : ℕ) → x < g.s → i < array_members g → array_block g (replicate (array_length g) 0) x i ≡ blank g
array-zeros g x i hx hi = block-zeros g (place_at g x i) (array_members g * g.s) (place_lt g.layout g.d g.parities g.s x i hx hi)

pub no_flag : (n i : ℕ) → flag (replicate n false) i ≡ false
no_flag zero i = refl
no_flag (suc n) zero = refl
no_flag (suc n) (suc i) = no_flag n i

-- ---- the list

none-words : (g : Geometry) → words (none_list g) ≡ encode g []
none-words g = words-bytes (replicate (g.h + 4 * g.e) none_word) ∙ sym (encode-none g)

pub none-length : (g : Geometry) → length (none_list g) ≡ list_length g
none-length g = ap length (none-bytes (g.h + 4 * g.e)) ∙ length-replicate (4 * (g.h + 4 * g.e)) 255 ∙ omega arith

-- every byte of a list of nones is below 256
pub full_bytes : (n i : ℕ) → get_or {A = ℕ} (replicate n 255) i 0 < 256
full_bytes zero i = omega arith
full_bytes (suc n) zero = omega arith
full_bytes (suc n) (suc i) = full_bytes n i

-- it passes number 3 and says nothing
pub fresh_says : (g : Geometry) → InRange g → HoldsList g (fresh_state g) 0 (none_list g)
unfolding fresh_state
fresh_says g Y =
    record {
      length_of = none-length g;
      passes = ap (λ (w : List ℕ). valid w g 0 0) (none-words g) ∙ none-valid g 0 Y.h_least Y.e_most;
      ori = λ x i _ _. ap (λ (e : Entry). record_at e.ori) (none_here x i) ∙ none_record;
      cur = λ x i _ _. ap (λ (e : Entry). record_at e.cur) (none_here x i) ∙ none_record;
    }
  where
    none_here : (x i : ℕ) → said (words (none_list g)) g (address_of g x i) ≡ record { address = address_of g x i; ori = none_word; cur = none_word }
    none_here x i = ap (λ (w : List ℕ). said w g (address_of g x i)) (none-words g) ∙ none_said g (address_of g x i) Y.h_least Y.e_most

none_below : (g : Geometry) (i : ℕ) → get_or (none_list g) i 0 < 256
none_below g i = subst (λ (l : List ℕ). get_or l i 0 < 256) (sym (none-bytes (g.h + 4 * g.e))) (full_bytes (4 * (g.h + 4 * g.e)) i)

-- ---- the shelf

pub fresh_leaves : (g : Geometry) → InRange g → Leaves g (fresh_state g) (formatted g)
unfolding formatted fresh_state is_some flags_from
fresh_leaves g Y =
    record {
      shelf = λ i. record { geometry = g; mode = 0; next = 0; listed = sym (no_marks_lem g) i; failed = replicate 19 false };
      array = array-is g (fresh_state g) (replicate (array_length g) 0) Y.s_least (length-replicate (array_length g) 0)
          (λ x i hx hi. by_role g (λ j. role_block g (fresh_state g) x j ≡ blank g) (λ j hj. role_data g (fresh_state g) x j hj) (λ p _. role_parity g (fresh_state g) x p) i hi
          ∙ sym (array-zeros g x i hx hi));
      log = log_is g (fresh_state g) (replicate (log_length g) 0) (length-replicate (log_length g) 0) (λ r hr. sym (block-zeros g r g.l hr));
      list = list_laid g (fresh_state g) 0 (none_list g) Y (fresh_says g Y) (none_below g);
    }

-- the record of a fresh shelf passes row 1
pub fresh_record_lem : (g : Geometry) → bad_record (fresh_record g) ≡ false
unfolding count bit
fresh_record_lem g =
    record_fine (fresh_record g) (record {
      modes = refl;
      above = above-fine (fresh_record g) (λ i _. no_flag 19 i);
      few = le-ltb g.parities 0 (omega arith);
      room = le-ltb g.l 0 (omega arith);
      fits = le-ltb g.e 0 (omega arith);
      idle = refl;
      normal = refl;
      transitional = refl;
      accelerating = refl;
    })

-- a fresh shelf is clean, beside a fresh book
pub fresh_clean : (g : Geometry) → InRange g → Clean g (formatted g) (fresh_book g)
unfolding formatted fresh_book
fresh_clean g Y =
    record {
      geometry = refl;
      flags = refl;
      measures = measures-fine g Y;
      fine = fresh_record_lem g;
      lengths = lengths-fine g (length (replicate (array_length g) 0)) (length (replicate (log_length g) 0)) (length (none_list g))
          (length-replicate (array_length g) 0) (length-replicate (log_length g) 0) (none-length g);
      mode = refl;
      list = refl;
      failed = fun_ext (λ i. sym (no_flag 19 i));
      marks = refl;
      blocks = λ x i _ _. blank-block g;
      sound = λ x i hx hi _. array-zeros g x i hx (omega arith);
      parity = λ x hx. record { each = λ p hp _. array-zeros g x (parity_role g p) hx (omega arith) ∙ sym (blank_parity g p) };
    }
