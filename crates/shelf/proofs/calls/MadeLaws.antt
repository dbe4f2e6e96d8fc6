-- Parity made afresh in the array and entries dropped from the list: what is left is what `made` and `remade` say. Laws for resync and full resync;
-- write's stripes that are not logged, and rebuild, go by the same.
-- Assumes nothing.
use mathlib.Core.Bool.{Bool, ◌||◌}
use mathlib.Core.List.{List}
use mathlib.Core.Logic.{◌≢◌}
use Rattle.std.specs.Prelude.{Option, None as none}
use mathlib.Core.Path.{◌≡◌, refl, sym, ap, ap₂, ◌∙◌, subst}
use Prim.Native.Nat.{ℕ, ◌+◌, ◌*◌, ◌/◌, ◌≤◌, ◌<◌}
use native.Mathlib.Omega.{arith}
use lib.Dec.{eqb}
use lib.ListN.{length, get_or, replicate}
use lib.Seq.{ext_get_or}
use borrow.Author.Tests.{eqb-true, eqb-false}
use Rattle.stripe.specs.Blocks.{block, byte_of, gen}
use Rattle.stripe.specs.Parity.{parity_of}
use Rattle.stripe.specs.Places.{column_at, by_column, parity_made, parity_made_all}
use Rattle.stripe.proofs.Laws.{made-length, made-others, made_in, all-length, all_data, all_obey, parity_ext, place_lt, place_inj, place_other, fits, length-block, get_or-block, length-gen, get_or-gen}
use Rattle.shelf.specs.Counting.{choose, set_at}
use Rattle.shelf.specs.Members.{InRange, address_of, column, block_parity, place_at}
use Rattle.shelf.specs.State.{State, is_some, listed, marks_in, fresh_state}
use Rattle.shelf.specs.Calls.{with_flags, next_left, mode_left, settled, dropped, afresh, made, remade, overwritten}
use Rattle.shelf.specs.Words.{words}
use Rattle.shelf.specs.HashList.{none_word, Entry, entry, entries, said, valid}
use Rattle.shelf.specs.below.Rewriting.{Rewritten, drop_stripes, drop_stripe}
pub use Rattle.shelf.specs.below.Showing.{HoldsArray, HoldsList}
use Rattle.shelf.specs.Lent.{lent, record_at, ori_by, cur_by, array_block, array_length, listed_by, list_length, flags_of, record_of, role_block, log_of, none_list, Leaves}
use Rattle.shelf.specs.below.Records.{with_listed}
use Rattle.shelf.specs.declared.record.Geometry.{Geometry}
use Rattle.shelf.specs.declared.record.Shelf.{Shelf}
use Rattle.shelf.proofs.general.TestLaws.{cases, choose_true, choose_false}
use Rattle.shelf.proofs.general.AddressLaws.{stripe_of_lem}
use Rattle.shelf.proofs.lent.FormatLaws.{none-bytes}
use Rattle.shelf.proofs.lent.FreshLaws.{full_bytes, fresh_says}
use Rattle.shelf.proofs.lent.ListLayout.{list_laid}
use Rattle.shelf.proofs.lent.LayoutLaws.{array-is, role_data, role_parity, by_role}
use Rattle.shelf.proofs.agreement.ListedLaws.{marks_in_ext, no_marks_lem}
use Rattle.shelf.proofs.hashlist.ListMarks.{none_record, marks_listed}
use Rattle.shelf.proofs.hashlist.ListMeaning.{length-encode, dropped-valid, dropped_left, dropped_gone, dropped-kept}
use Rattle.shelf.proofs.hashlist.WordLaws.{length-bytes}

-- ---- a block by its bytes

block-is : (b n : ℕ) (l v : List ℕ) → n * b + b ≤ length l → length v ≡ b → ((j : ℕ) → j < b → byte_of b l n j ≡ get_or v j 0) → block b n l ≡ v
unfolding byte_of
block-is b n l v h e same =
    ext_get_or 0 (block b n l) v (length-block b n l h ∙ sym e)
    (λ j p. let q : j < b = omega (arith, length-block b n l h) in get_or-block b n l j q ∙ same j q)

byte_block : (b n : ℕ) (l : List ℕ) (j : ℕ) → j < b → byte_of b l n j ≡ get_or (block b n l) j 0
unfolding byte_of
byte_block b n l j p = sym (get_or-block b n l j p)

-- ---- what is lent is a state, part by part: array and list are carried from stripe to stripe as these two say

pub says_marks : (g : Geometry) (s : State) (k : ℕ) (l : List ℕ) → InRange g → HoldsList g s k l → marks_in g (listed s.log) ≡ k
says_marks g s k l Y Z =
    marks_in_ext g (listed s.log) (listed_by g l)
    (λ x i hx hi. ap₂ (λ (o c : Option ℕ). is_some o || is_some c) (sym (Z.ori x i hx hi)) (sym (Z.cur x i hx hi)))
    ∙ marks_listed g l s.log.next k Y Z.passes

pub leaves_by : (g : Geometry) (s : State) (r : Shelf) (a n l : List ℕ) → InRange g → r ≡ record_of g s → HoldsArray g s a → n ≡ log_of g s → HoldsList g s r.listed l
    → ((i : ℕ) → get_or l i 0 < 256) → Leaves g s (lent r a n l)
leaves_by g s r a n l Y er A en Z bytes =
    record { shelf = er; array = array-is g s a Y.s_least A.long A.blocks; log = en; list = list_laid g s r.listed l Y Z bytes }

-- ---- one stripe: the array

-- the array a is the state's but for stripe t, whose data blocks are those of row; its parities are not looked at
pub record Rowed (g : Geometry) (s : State) (t : ℕ) (row : ℕ → List ℕ) (a : List ℕ) : Type 0 where
  pub long : length a ≡ array_length g
  pub here : (i : ℕ) → i < g.d → array_block g a t i ≡ row i
  pub disk : (x i : ℕ) → x < g.s → x ≢ t → i < g.d → array_block g a x i ≡ s.disk x i
  pub parity : (x p : ℕ) → x < g.s → p < g.parities → x ≢ t → array_block g a x (g.d + p) ≡ s.parity x p

module _ (g : Geometry) (s : State) (t : ℕ) (row : ℕ → List ℕ) (a : List ℕ) (ht : t < g.s) (R : Rowed g s t row a) where
  abbrev at : ℕ → ℕ
  at = place_at g t

  abbrev after : List ℕ
  after = parity_made (place_at g t) g.d g.parities g.b a

  room : (x i : ℕ) → x < g.s → i < g.d + g.parities → place_at g x i * g.b + g.b ≤ length a
  room x i hx hi = fits (place_at g x i) ((g.d + g.parities) * g.s) g.b a R.long (place_lt g.layout g.d g.parities g.s x i hx hi)

  own : (i k : ℕ) → i < g.d + g.parities → k < g.d + g.parities → i ≢ k → at i ≢ at k
  own i k hi hk ne e = ne (place_inj g.layout g.d g.parities g.s t i k ht hi hk e)

  after_long : length after ≡ length a
  after_long = made-length at g.d g.b a g.parities (λ i h. room t i ht h)

  after_room : (x i : ℕ) → x < g.s → i < g.d + g.parities → place_at g x i * g.b + g.b ≤ length after
  after_room x i hx hi = omega (arith, after_long, room x i hx hi)

  -- a block that is no parity of stripe t
  stays : (x i : ℕ) → x < g.s → i < g.d + g.parities → ((p : ℕ) → p < g.parities → place_at g x i ≢ at (g.d + p))
      → array_block g after x i ≡ array_block g a x i
  stays x i hx hi away =
      block-is g.b (place_at g x i) after (array_block g a x i) (after_room x i hx hi)
      (length-block g.b (place_at g x i) a (room x i hx hi))
      (λ j l. made-others at g.d g.b a g.parities (λ k h. room t k ht h) (place_at g x i) j l away ∙ byte_block g.b (place_at g x i) a j l)

  pub elsewhere : (x i : ℕ) → x < g.s → i < g.d + g.parities → x ≢ t → array_block g after x i ≡ array_block g a x i
  elsewhere x i hx hi ne = stays x i hx hi (λ p _. place_other g.layout g.d g.parities g.s x t i (g.d + p) hx ht ne)

  pub in_row : (i : ℕ) → i < g.d → array_block g after t i ≡ row i
  in_row i hi = stays t i ht (omega arith) (λ p hp. own i (g.d + p) (omega arith) (omega arith) (λ e. omega arith)) ∙ R.here i hi

  columns : (j : ℕ) → j < g.b → (i : ℕ) → i < g.d → column_at at g.b a j i ≡ column row j i
  unfolding column_at
  columns j l i hi = byte_block g.b (at i) a j l ∙ ap (λ (v : List ℕ). get_or v j 0) (R.here i hi)

  pub in_parity : (p : ℕ) → p < g.parities → array_block g after t (g.d + p) ≡ block_parity g p row
  unfolding block_parity by_column
  in_parity p hp =
      block-is g.b (at (g.d + p)) after (gen g.b (λ j. parity_of p g.d (column row j))) (after_room t (g.d + p) ht (omega arith))
      (length-gen g.b (λ j. parity_of p g.d (column row j)))
      (λ j l. made_in at g.d g.b a g.parities (λ k h. room t k ht h) own p j hp l ∙ parity_ext p g.d (column_at at g.b a j) (column row j) (columns j l)
      ∙ sym (get_or-gen g.b (λ j. parity_of p g.d (column row j)) j l))

  -- the array with the stripe's parity made holds the blocks of `made`
  pub made_reads : HoldsArray g (made g s t row) (parity_made (place_at g t) g.d g.parities g.b a)
  unfolding made settled choose set_at
  made_reads =
      record {
        long = after_long ∙ R.long;
        blocks = λ x i hx hi.
            by_role g (λ k. role_block g (made g s t row) x k ≡ array_block g after x k)
            (λ k hk. role_data g (made g s t row) x k hk ∙ cases (eqb x t)
            (λ e. simp e (sym (in_row k hk) ∙ ap (λ (y : ℕ). array_block g after y k) (sym (eqb-true x t e))))
            (λ e. simp e (sym (elsewhere x k hx (omega arith) (eqb-false x t e) ∙ R.disk x k hx (eqb-false x t e) hk))))
            (λ p hp. role_parity g (made g s t row) x p ∙ cases (eqb x t)
            (λ e. simp e (sym (in_parity p hp) ∙ ap (λ (y : ℕ). array_block g after y (g.d + p)) (sym (eqb-true x t e))))
            (λ e. simp e (sym (elsewhere x (g.d + p) hx (omega arith) (eqb-false x t e) ∙ R.parity x p hx hp (eqb-false x t e)))))
            i hi;
      }

-- the array of a state, with the data blocks of stripe t that w picks replaced: what a write leaves before parity is made. For w of none it is the
-- array as it was
pub rowed : (g : Geometry) (s : State) (t : ℕ) (w : ℕ → Bool) (v : ℕ → List ℕ) (a a' : List ℕ) → t < g.s → HoldsArray g s a → length a' ≡ length a
    → ((i : ℕ) → i < g.d → array_block g a' t i ≡ choose (w i) (v i) (array_block g a t i))
    → ((x i : ℕ) → x < g.s → x ≢ t → i < g.d + g.parities → array_block g a' x i ≡ array_block g a x i) → Rowed g s t (overwritten w v (s.disk t)) a'
rowed g s t w v a a' ht A long here other =
    record {
      long = long ∙ A.long;
      here = λ i hi. here i hi ∙ ap (λ (o : List ℕ). choose (w i) (v i) o) (sym (A.blocks t i ht (omega arith)) ∙ role_data g s t i hi);
      disk = λ x i hx ne hi. other x i hx ne (omega arith) ∙ sym (A.blocks x i hx (omega arith)) ∙ role_data g s x i hi;
      parity = λ x p hx hp ne. other x (g.d + p) hx ne (omega arith) ∙ sym (A.blocks x (g.d + p) hx (omega arith)) ∙ role_parity g s x p;
    }

-- the same of an array in which nothing is replaced
pub rowed_same : (g : Geometry) (s : State) (t : ℕ) (a : List ℕ) → t < g.s → HoldsArray g s a → Rowed g s t (s.disk t) a
rowed_same g s t a ht A =
    record {
      long = A.long;
      here = λ i hi. sym (A.blocks t i ht (omega arith)) ∙ role_data g s t i hi;
      disk = λ x i hx ne hi. sym (A.blocks x i hx (omega arith)) ∙ role_data g s x i hi;
      parity = λ x p hx hp ne. sym (A.blocks x (g.d + p) hx (omega arith)) ∙ role_parity g s x p;
    }

-- ---- some stripes: the list and the record

-- the entries of the stripes that pass the test dropped: l₀ before, l after
module _ (g : Geometry) (s : State) (t : ℕ → Bool) (Y : InRange g) (k₀ k : ℕ) (l₀ l : List ℕ) (Z : HoldsList g s k₀ l₀)
    (W : Rewritten g (drop_stripes g.d t (entries (words l₀) g)) l k) where
  -- what is said of a block, by either word
  dropped_word : (f : Entry → ℕ) → ((a : ℕ) → f (entry a none_word none_word) ≡ none_word) → (x i : ℕ) → i < g.d
      → record_at (f (said (words l) g (address_of g x i))) ≡ choose (t x) none (record_at (f (said (words l₀) g (address_of g x i))))
  dropped_word f none-there x i hi =
      let at : address_of g x i / g.d ≡ x = stripe_of_lem x g.d i hi in
      cases (t x)
      (λ e. ap (λ (v : Entry). record_at (f v))
      (dropped_gone (words l₀) g s.log.next k₀ Y.h_least (omega (arith, Y.d_least)) Y.e_most Z.passes t k l W (address_of g x i) (ap t at ∙ e))
      ∙ ap record_at (none-there (address_of g x i)) ∙ none_record ∙ sym (choose_true (t x) none (record_at (f (said (words l₀) g (address_of g x i)))) e))
      (λ e. ap (λ (v : Entry). record_at (f v))
      (dropped-kept (words l₀) g s.log.next k₀ Y.h_least (omega (arith, Y.d_least)) Y.e_most Z.passes t k l W (address_of g x i) (ap t at ∙ e))
      ∙ sym (choose_false (t x) none (record_at (f (said (words l₀) g (address_of g x i)))) e))

  dropped-ori : (x i : ℕ) → x < g.s → i < g.d → ori_by g l x i ≡ choose (t x) none (s.log.ori x i)
  dropped-ori x i hx hi = dropped_word (λ v. v.ori) (λ _. refl) x i hi ∙ ap (choose (t x) none) (Z.ori x i hx hi)

  dropped-cur : (x i : ℕ) → x < g.s → i < g.d → cur_by g l x i ≡ choose (t x) none (s.log.cur x i)
  dropped-cur x i hx hi = dropped_word (λ v. v.cur) (λ _. refl) x i hi ∙ ap (choose (t x) none) (Z.cur x i hx hi)

  -- as many blocks are left listed as entries
  pub dropped-marks : k ≡ marks_in g (listed (dropped s.log t))
  dropped-marks =
      sym (marks_listed g l s.log.next k Y (dropped-valid (words l₀) g s.log.next k₀ Y.h_least (omega (arith, Y.d_least)) Y.e_most Z.passes t k l W))
      ∙ marks_in_ext g (listed_by g l) (listed (dropped s.log t))
      (λ x i hx hi. ap₂ (λ (o c : Option ℕ). is_some o || is_some c) (dropped-ori x i hx hi) (dropped-cur x i hx hi))

  -- whatever disks and flags it is settled with
  pub afresh_says : (disk : ℕ → ℕ → List ℕ) (f : ℕ → Bool) → HoldsList g (settled g (with_flags (afresh g s t disk) f)) k l
  unfolding settled
  afresh_says disk f =
      record {
        length_of = ap length W.0 ∙ length-bytes _ ∙ (let q = length-encode g (drop_stripes g.d t (entries (words l₀) g)) Y.h_least Y.e_most in omega (arith, q));
        passes = ap (λ (m : ℕ). valid (words l) g (next_left m s.log.next) k) (sym dropped-marks)
            ∙ dropped_left (words l₀) g s.log.next k₀ Y.h_least (omega (arith, Y.d_least)) Y.e_most Z.passes t k l W;
        ori = dropped-ori;
        cur = dropped-cur;
      }

-- one stripe
pub made_says : (g : Geometry) (s : State) (t : ℕ) (row : ℕ → List ℕ) → InRange g → (k₀ k : ℕ) (l₀ l : List ℕ) → HoldsList g s k₀ l₀
    → Rewritten g (drop_stripe g.d t (entries (words l₀) g)) l k → HoldsList g (made g s t row) k l
unfolding made
made_says g s t row Y k₀ k l₀ l Z W = afresh_says g s (λ x. eqb x t) Y k₀ k l₀ l Z W _ _

-- the record with k entries left
pub made_record : (g : Geometry) (s : State) (t : ℕ) (row : ℕ → List ℕ) (r : Shelf) (k : ℕ) (l : List ℕ) → InRange g → r ≡ record_of g s → HoldsList g (made g s t row) k l
    → with_listed r k ≡ record_of g (made g s t row)
unfolding made settled
made_record g s t row r k l Y er Z =
    let m : k ≡ marks_in g (listed (made g s t row).log) = sym (says_marks g (made g s t row) k l Y Z) in
    ap (λ (v : Shelf). with_listed v k) er
    ∙ (λ i. record { geometry = g; mode = mode_left (m i) s.mode; next = next_left (m i) s.log.next; listed = m i; failed = flags_of s.failed })

pub made-log : (g : Geometry) (s : State) (t : ℕ) (row : ℕ → List ℕ) (n : List ℕ) → n ≡ log_of g s → n ≡ log_of g (made g s t row)
unfolding made settled log_of
made-log g s t row n e = e

-- Stripe t with the data blocks of row made, all of it: from what is lent as the state s, but for the array a, which has the row already.
pub made_leaves : (g : Geometry) (s : State) (t : ℕ) (row : ℕ → List ℕ) (r : Shelf) (k : ℕ) (a n l : List ℕ) → InRange g → t < g.s → r ≡ record_of g s → n ≡ log_of g s
    → Rowed g s t row a → HoldsList g (made g s t row) k l → ((i : ℕ) → get_or l i 0 < 256)
    → Leaves g (made g s t row) (lent (with_listed r k) (parity_made (place_at g t) g.d g.parities g.b a) n l)
made_leaves g s t row r k a n l Y ht er en R Z bytes =
    leaves_by g (made g s t row) (with_listed r k) (parity_made (place_at g t) g.d g.parities g.b a) n l Y (made_record g s t row r k l Y er Z) (made_reads g s t row a ht R)
    (made-log g s t row n en) Z bytes

-- ---- all stripes

-- the data blocks of the array a are those of disk; its parities are not looked at
pub record Filled (g : Geometry) (disk : ℕ → ℕ → List ℕ) (a : List ℕ) : Type 0 where
  pub long : length a ≡ array_length g
  pub blocks : (x i : ℕ) → x < g.s → i < g.d → array_block g a x i ≡ disk x i

module _ (g : Geometry) (disk : ℕ → ℕ → List ℕ) (a : List ℕ) (F : Filled g disk a) where
  abbrev at_all : ℕ → ℕ → ℕ
  at_all = place_at g

  abbrev all_after : List ℕ
  all_after = parity_made_all g.s (place_at g) g.d g.parities g.b a

  all_room : (x i : ℕ) → x < g.s → i < g.d + g.parities → place_at g x i * g.b + g.b ≤ length a
  all_room x i hx hi = fits (place_at g x i) ((g.d + g.parities) * g.s) g.b a F.long (place_lt g.layout g.d g.parities g.s x i hx hi)

  all_own : (x i k : ℕ) → x < g.s → i < g.d + g.parities → k < g.d + g.parities → i ≢ k → at_all x i ≢ at_all x k
  all_own x i k hx hi hk ne e = ne (place_inj g.layout g.d g.parities g.s x i k hx hi hk e)

  all_apart : (x y i k : ℕ) → x < g.s → y < g.s → x ≢ y → at_all x i ≢ at_all y k
  all_apart x y i k hx hy ne = place_other g.layout g.d g.parities g.s x y i k hx hy ne

  all-long : length all_after ≡ length a
  all-long = all-length at_all g.d g.parities g.s g.b a all_room all_own all_apart g.s (omega arith)

  all_after_room : (x i : ℕ) → x < g.s → i < g.d + g.parities → place_at g x i * g.b + g.b ≤ length all_after
  all_after_room x i hx hi = omega (arith, all-long, all_room x i hx hi)

  all-columns : (x j : ℕ) → x < g.s → j < g.b → (i : ℕ) → i < g.d → column_at (at_all x) g.b all_after j i ≡ column (disk x) j i
  unfolding column_at
  all-columns x j hx l i hi =
      all_data at_all g.d g.parities g.s g.b a all_room all_own all_apart g.s x i j (omega arith) hx hi l
      ∙ byte_block g.b (at_all x i) a j l ∙ ap (λ (v : List ℕ). get_or v j 0) (F.blocks x i hx hi)

  all_in_data : (x i : ℕ) → x < g.s → i < g.d → array_block g all_after x i ≡ disk x i
  unfolding column_at
  all_in_data x i hx hi =
      block-is g.b (at_all x i) all_after (disk x i) (all_after_room x i hx (omega arith))
      (sym (ap length (F.blocks x i hx hi)) ∙ length-block g.b (at_all x i) a (all_room x i hx (omega arith)))
      (λ j l. all-columns x j hx l i hi)

  all_in_parity : (x p : ℕ) → x < g.s → p < g.parities → array_block g all_after x (g.d + p) ≡ block_parity g p (disk x)
  unfolding block_parity column_at
  all_in_parity x p hx hp =
      block-is g.b (at_all x (g.d + p)) all_after (gen g.b (λ j. parity_of p g.d (column (disk x) j))) (all_after_room x (g.d + p) hx (omega arith))
      (length-gen g.b (λ j. parity_of p g.d (column (disk x) j)))
      (λ j l. (all_obey at_all g.d g.parities g.s g.b a all_room all_own all_apart g.s x j (omega arith) hx l).each p hp
      ∙ parity_ext p g.d (column_at (at_all x) g.b all_after j) (column (disk x) j) (all-columns x j hx l)
      ∙ sym (get_or-gen g.b (λ j. parity_of p g.d (column (disk x) j)) j l))

  -- the array with all parity made holds the blocks of `remade`
  pub remade_reads : (s : State) (f : ℕ → Bool) → HoldsArray g (remade g s disk f) (parity_made_all g.s (place_at g) g.d g.parities g.b a)
  unfolding remade
  remade_reads s f =
      record {
        long = all-long ∙ F.long;
        blocks = λ x i hx hi.
            by_role g (λ k. role_block g (remade g s disk f) x k ≡ array_block g all_after x k)
            (λ k hk. role_data g (remade g s disk f) x k hk ∙ sym (all_in_data x k hx hk))
            (λ p hp. role_parity g (remade g s disk f) x p ∙ sym (all_in_parity x p hx hp)) i hi;
      }

-- ---- the list emptied: every byte 255

empty_bytes : (g : Geometry) → replicate (list_length g) 255 ≡ none_list g
empty_bytes g =
    let q : 4 * g.h + 16 * g.e ≡ 4 * (g.h + 4 * g.e) = omega arith in
    ap (λ (k : ℕ). replicate k 255) q ∙ sym (none-bytes (g.h + 4 * g.e))

pub remade_says : (g : Geometry) (s : State) (disk : ℕ → ℕ → List ℕ) (f : ℕ → Bool) → InRange g → HoldsList g (remade g s disk f) 0 (replicate (list_length g) 255)
unfolding remade fresh_state
remade_says g s disk f Y =
    subst (λ (l : List ℕ). HoldsList g (remade g s disk f) 0 l) (sym (empty_bytes g))
    (let F = fresh_says g Y in record { length_of = F.length_of; passes = F.passes; ori = F.ori; cur = F.cur })

-- the record of an emptied shelf in mode 0
pub remade_record : (g : Geometry) (s : State) (disk : ℕ → ℕ → List ℕ) (f : ℕ → Bool)
    → record { geometry = g; mode = 0; next = 0; listed = 0; failed = flags_of f } ≡ record_of g (remade g s disk f)
unfolding remade is_some
remade_record g s disk f = λ i. record { geometry = g; mode = 0; next = 0; listed = sym (no_marks_lem g) i; failed = flags_of f }

pub remade-log : (g : Geometry) (s : State) (disk : ℕ → ℕ → List ℕ) (f : ℕ → Bool) (n : List ℕ) → n ≡ log_of g s → n ≡ log_of g (remade g s disk f)
unfolding remade log_of
remade-log g s disk f n e = e

-- All stripes with the data blocks of disk made, all of it: the array a has the blocks already.
pub remade_leaves : (g : Geometry) (s : State) (disk : ℕ → ℕ → List ℕ) (f : ℕ → Bool) (a n : List ℕ) → InRange g → Filled g disk a → n ≡ log_of g s
    → Leaves g (remade g s disk f)
    (lent (record { geometry = g; mode = 0; next = 0; listed = 0; failed = flags_of f }) (parity_made_all g.s (place_at g) g.d g.parities g.b a) n (replicate (list_length g) 255))
remade_leaves g s disk f a n Y F en =
    leaves_by g (remade g s disk f) (record { geometry = g; mode = 0; next = 0; listed = 0; failed = flags_of f }) (parity_made_all g.s (place_at g) g.d g.parities g.b a) n
    (replicate (list_length g) 255) Y (remade_record g s disk f) (remade_reads g disk a F s f) (remade-log g s disk f n en) (remade_says g s disk f Y) (full_bytes (list_length g))
