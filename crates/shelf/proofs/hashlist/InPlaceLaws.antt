-- A stripe's entries replaced in their own places by entries of the same addresses: the list stays the one list for its entries, since heads and Next
-- words are told by the addresses.
-- Assumes nothing.
use mathlib.Core.Bool.{Bool, true, false}
use mathlib.Core.List.{List, [], ◌∷◌, ◌++◌}
use mathlib.Core.Logic.{◌⊎◌, inl, inr, ◌≢◌}
use mathlib.Core.Path.{◌≡◌, refl, sym, ap, ap₂, ◌∙◌, subst}
use Prim.Native.Nat.{ℕ, zero, suc, ◌+◌, ◌*◌, ◌-◌, ◌/◌, ◌%◌, ◌≤◌, ◌<◌}
use native.Mathlib.Decide.{ℕ_discrete, dec_lt}
use native.Mathlib.Nat.{mod-lt, zero-add, suc-mul, div-lt_iff_lt-mul}
use native.Mathlib.Omega.{arith}
use lib.Dec.{eqb}
use lib.ListN.{length, get_or, take, drop, replicate, length-replicate, length-append, get_or-append}
use lib.Seq.{ext_get_or, take_all, length-take-le, get_or-take, get_or-drop, get_or-append-add}
use borrow.Author.Tests.{eq-eqb, ne_eqb}
use Rattle.shelf.specs.declared.record.Geometry.{Geometry}
use Rattle.shelf.specs.HashList.{none_word, address_at, next_at, valid, Entry, entry_in, entries, put_front, put_all, encode}
use Rattle.shelf.specs.below.Lists.{FirstFrom}
use Rattle.shelf.specs.below.Rewriting.{drop_stripes, drop_stripe, table, placed, nth, merged, Segment, LinksKept, InPlace, NotBelow, Opened, Filled}
use Rattle.shelf.proofs.hashlist.ChainLaws.{length-all, length_put_n, front_other, front_head, front_next, front_slot}
use Rattle.shelf.proofs.hashlist.DecodeLaws.{Stands, stands, put-unused}
use Rattle.shelf.proofs.hashlist.FoundLaws.{entries_taken, entries-count, list-is, listed_room, unused}
use Rattle.shelf.proofs.hashlist.CheckLaws.{place_words, stands_same}
use Rattle.shelf.proofs.hashlist.TableLaws.{no_entry, length-table, table_get, table-take, links-same_word}
use Rattle.shelf.proofs.hashlist.EntryLaws.{drop_keep}
use Rattle.shelf.proofs.hashlist.AlterLaws.{merged-placed}
use Rattle.shelf.proofs.hashlist.OrderLaws.{rises_to}

-- ---- entries of the same addresses have the same heads and Next words

abbrev Alike : List Entry → List Entry → Type 0
Alike [] [] = Unit {0}
Alike [] (y ∷ ys) = ⊥
Alike (x ∷ xs) [] = ⊥
Alike (x ∷ xs) (y ∷ ys) = (y.address ≡ x.address) × Alike xs ys

alike_table : (n i : ℕ) (f t : ℕ → Entry) → ((q : ℕ) → i ≤ q → q < i + n → (t q).address ≡ (f q).address) → Alike (table n i f) (table n i t)
unfolding table
alike_table zero i f t s = tt
alike_table (suc n) i f t s = (s i (omega arith) (omega arith), alike_table n (i + 1) f t (λ q o l. s q (omega arith) (omega arith)))

module _ (h e : ℕ) (hpos : 0 < h) where
  beside : (j p : ℕ) → j ≢ p → (h + 4 * j + 3 < h + 4 * p) ⊎ (h + 4 * p + 4 ≤ h + 4 * j + 3)
  beside j p n = elim (dec_lt j p) [ yes o ↦ inl (omega arith) | no o ↦ inr (omega arith) ]

  links_front : (w v : List ℕ) (p : ℕ) (x y : Entry) → p < e → length w ≡ h + 4 * e → length v ≡ h + 4 * e → y.address ≡ x.address → LinksKept h w v
      → LinksKept h (put_front w h p x) (put_front v h p y)
  links_front w v p x y pe lw lv q K =
      let slot : y.address % h ≡ x.address % h = ap (λ (k : ℕ). k % h) q in
      let sx : x.address % h < h = mod-lt x.address hpos in
      let sy : y.address % h < h = mod-lt y.address hpos in
      record {
        heads = λ s l. elim (ℕ_discrete s (x.address % h)) [
          | yes z ↦ ap (λ (k : ℕ). get_or (put_front v h p y) k 0) (z ∙ sym slot) ∙ front_head v h e p y hpos pe lv
              ∙ sym (front_head w h e p x hpos pe lw) ∙ ap (λ (k : ℕ). get_or (put_front w h p x) k 0) (sym z)
          | no z ↦ front_slot v h e p y hpos pe lv s l (λ u. z (u ∙ slot)) ∙ K.heads s l ∙ sym (front_slot w h e p x hpos pe lw s l z)
        ];
        nexts = λ j. elim (ℕ_discrete j p) [
          | yes z ↦ ap (λ (k : ℕ). next_at (put_front v h p y) h k) z ∙ front_next v h e p y hpos pe lv ∙ ap (λ (k : ℕ). get_or v k 0) slot
              ∙ K.heads (x.address % h) sx ∙ sym (front_next w h e p x hpos pe lw) ∙ ap (λ (k : ℕ). next_at (put_front w h p x) h k) (sym z)
          | no z ↦ front_other v h e p y hpos pe lv (h + 4 * j + 3) (λ u. omega arith) (beside j p z) ∙ K.nexts j
              ∙ sym (front_other w h e p x hpos pe lw (h + 4 * j + 3) (λ u. omega arith) (beside j p z))
        ];
      }

  length-made : (p : ℕ) (es : List Entry) → length (put_all (replicate (h + 4 * e) none_word) h p es) ≡ h + 4 * e
  length-made p es = length-all (replicate (h + 4 * e) none_word) h p es ∙ length-replicate (h + 4 * e) none_word

  alike_links : (p : ℕ) (es fs : List Entry) → p + length es ≤ e → Alike es fs
      → LinksKept h (put_all (replicate (h + 4 * e) none_word) h p es) (put_all (replicate (h + 4 * e) none_word) h p fs)
  unfolding put_all
  alike_links p [] [] o a = links-same_word h (replicate (h + 4 * e) none_word)
  alike_links p [] (y ∷ ys) o a = absurd a
  alike_links p (x ∷ xs) [] o a = absurd a
  alike_links p (x ∷ xs) (y ∷ ys) o a =
      links_front (put_all (replicate (h + 4 * e) none_word) h (p + 1) xs) (put_all (replicate (h + 4 * e) none_word) h (p + 1) ys) p x y (omega arith)
      (length-made (p + 1) xs) (length-made (p + 1) ys) a.0 (alike_links (p + 1) xs ys (omega arith) a.1)

-- ---- entries that stand are a table

pub stands_table : (w : List ℕ) (h p : ℕ) (es : List Entry) → Stands w h p es → es ≡ table (length es) p (entry_in w h)
unfolding table
stands_table w h p [] s = refl
stands_table w h p (x ∷ xs) s = ap₂ (λ (y : Entry) (ys : List Entry). y ∷ ys) (sym s.0) (stands_table w h (p + 1) xs s.1)

table_stands : (w : List ℕ) (h n p : ℕ) → Stands w h p (table n p (entry_in w h))
unfolding table
table_stands w h zero p = tt
table_stands w h (suc n) p = (refl, table_stands w h n (p + 1))

pub table-append : (n m i : ℕ) (f : ℕ → Entry) → table (n + m) i f ≡ table n i f ++ table m (i + n) f
unfolding table
table-append zero m i f =
    let a : zero + m ≡ m = omega arith in
    let b : i ≡ i + zero = omega arith in
    ap₂ (λ (k j : ℕ). table k j f) a b
table-append (suc n) m i f =
    let a : suc n + m ≡ suc (n + m) = omega arith in
    let b : i + 1 + n ≡ i + suc n = omega arith in
    ap (λ (k : ℕ). table k i f) a ∙ ap (λ (es : List Entry). f i ∷ es) (table-append n m (i + 1) f ∙ ap (λ (j : ℕ). table n (i + 1) f ++ table m j f) b)

pub table-drop : (n m i : ℕ) (f : ℕ → Entry) → n ≤ m → drop n (table m i f) ≡ table (m - n) (i + n) f
unfolding table
table-drop zero m i f o =
    let a : m ≡ m - zero = omega arith in
    let b : i ≡ i + zero = omega arith in
    ap₂ (λ (k j : ℕ). table k j f) a b
table-drop (suc n) zero i f o = absurd (omega arith)
table-drop (suc n) (suc m) i f o =
    let a : m - n ≡ suc m - suc n = omega arith in
    let b : i + 1 + n ≡ i + suc n = omega arith in
    table-drop n m (i + 1) f (omega arith) ∙ ap₂ (λ (k j : ℕ). table k j f) a b

-- ---- a table's stripes dropped

module _ (d : ℕ) (t : ℕ → Bool) (f : ℕ → Entry) where
  pub drop_more : (n i : ℕ) (ys : List Entry) → ((q : ℕ) → i ≤ q → q < i + n → t ((f q).address / d) ≡ false)
      → drop_stripes d t (table n i f ++ ys) ≡ table n i f ++ drop_stripes d t ys
  unfolding table
  drop_more zero i ys s = refl
  drop_more (suc n) i ys s =
      drop_keep d t (f i) (table n (i + 1) f ++ ys) (s i (omega arith) (omega arith))
      ∙ ap (λ (es : List Entry). f i ∷ es) (drop_more n (i + 1) ys (λ q o l. s q (omega arith) (omega arith)))

  pub drop_away : (n i : ℕ) (ys : List Entry) → ((q : ℕ) → i ≤ q → q < i + n → t ((f q).address / d) ≡ true)
      → drop_stripes d t (table n i f ++ ys) ≡ drop_stripes d t ys
  unfolding table drop_stripes
  drop_away zero i ys s = refl
  drop_away (suc n) i ys s =
      ap (λ (b : Bool). elim b as (λ _. List Entry) [ true ↦ drop_stripes d t (table n (i + 1) f ++ ys) | false ↦ f i ∷ drop_stripes d t (table n (i + 1) f ++ ys) ])
      (s i (omega arith) (omega arith)) ∙ drop_away n (i + 1) ys (λ q o l. s q (omega arith) (omega arith))

pub drop-table : (d : ℕ) (t : ℕ → Bool) (f : ℕ → Entry) (n i : ℕ) → ((q : ℕ) → i ≤ q → q < i + n → t ((f q).address / d) ≡ false) → drop_stripes d t (table n i f) ≡ table n i f
unfolding table drop_stripes
drop-table d t f zero i s = refl
drop-table d t f (suc n) i s =
    drop_keep d t (f i) (table n (i + 1) f) (s i (omega arith) (omega arith))
    ∙ ap (λ (es : List Entry). f i ∷ es) (drop-table d t f n (i + 1) (λ q o l. s q (omega arith) (omega arith)))

pub not-below : (d k n i : ℕ) (f : ℕ → Entry) → ((q : ℕ) → i ≤ q → q < i + n → k ≤ (f q).address / d) → NotBelow d k (table n i f)
unfolding table
not-below d k zero i f s = tt
not-below d k (suc n) i f s = (s i (omega arith) (omega arith), not-below d k n (i + 1) f (λ q o l. s q (omega arith) (omega arith)))

-- ---- the words u are those of a list that passes number 3 but for what the places of stripe k say

module _ (w : List ℕ) (g : Geometry) (next n : ℕ) (hpos : 0 < g.h) (dpos : 0 < g.d) (small : g.e ≤ 4096) (v : valid w g next n ≡ true) (u : List ℕ)
    (lu : length u ≡ g.h + 4 * g.e) (K : LinksKept g.h w u) (B : (i : ℕ) → g.h + 4 * n ≤ i → get_or u i 0 ≡ get_or w i 0) where
  room : n ≤ g.e
  room = listed_room w g next n hpos dpos small v

  entries-placed : entries w g ≡ placed n w g.h 0
  entries-placed =
      stands_table w g.h 0 (entries w g) (entries_taken w g).0
      ∙ ap (λ (k : ℕ). table k 0 (entry_in w g.h)) (entries-count w g next n hpos dpos small v)

  module _ (same : (q : ℕ) → q < n → address_at u g.h q ≡ address_at w g.h q) where
    links : LinksKept g.h (encode g (placed n w g.h 0)) (encode g (placed n u g.h 0))
    unfolding encode
    links =
        alike_links g.h g.e hpos 0 (placed n w g.h 0) (placed n u g.h 0)
        (let r = room in let l : length (placed n w g.h 0) ≡ n = length-table n 0 (entry_in w g.h) in omega arith)
        (alike_table n 0 (entry_in w g.h) (entry_in u g.h) (λ q o l. same q (omega arith)))

    before : w ≡ encode g (placed n w g.h 0)
    before = list-is w g next n hpos dpos small v ∙ ap (encode g) entries-placed

    stands_new : Stands (encode g (placed n u g.h 0)) g.h 0 (placed n u g.h 0)
    unfolding encode
    stands_new =
        stands g.h g.e hpos small 0 (placed n u g.h 0)
        (let r = room in let l : length (placed n u g.h 0) ≡ n = length-table n 0 (entry_in u g.h) in omega arith)

    none-new : (q j : ℕ) → n ≤ q → q < g.e → j < 4 → get_or (encode g (placed n u g.h 0)) (g.h + 4 * q + j) 0 ≡ none_word
    unfolding encode
    none-new q j o l k =
        let z : length (placed n u g.h 0) ≡ n = length-table n 0 (entry_in u g.h) in
        put-unused g.h g.e hpos small 0 (placed n u g.h 0) q j (omega arith) l k

    length-new : length (encode g (placed n u g.h 0)) ≡ g.h + 4 * g.e
    unfolding encode
    length-new = length_put_n g.h g.e hpos small 0 (placed n u g.h 0)

    word_in : (i : ℕ) → i < length u → get_or u i 0 ≡ get_or (encode g (placed n u g.h 0)) i 0
    word_in i l = elim (dec_lt i g.h) [
      | yes o ↦ K.heads i o ∙ ap (λ (z : List ℕ). get_or z i 0) before ∙ sym (links.heads i o)
      | no o ↦
          let q : ℕ = (i - g.h) / 4 in
          let j : ℕ = (i - g.h) % 4 in
          let is : g.h + 4 * ((i - g.h) / 4) + (i - g.h) % 4 ≡ i = omega arith in
          let jl : (i - g.h) % 4 < 4 = omega arith in
          let ql : (i - g.h) / 4 < g.e = omega arith in
          subst (λ (k : ℕ). get_or u k 0 ≡ get_or (encode g (placed n u g.h 0)) k 0) is (elim (dec_lt q n) [
            | yes z ↦
                let en : entry_in u g.h q ≡ entry_in (encode g (placed n u g.h 0)) g.h q =
                stands_same u (encode g (placed n u g.h 0)) g.h 0 (placed n u g.h 0) q (table_stands u g.h n 0) stands_new (omega arith)
                (let y : length (placed n u g.h 0) ≡ n = length-table n 0 (entry_in u g.h) in omega arith) in
                place_words u (encode g (placed n u g.h 0)) g.h q (ap (λ (x : Entry). x.address) en) (ap (λ (x : Entry). x.ori) en)
                (ap (λ (x : Entry). x.cur) en) (K.nexts q ∙ ap (λ (y : List ℕ). next_at y g.h q) before ∙ sym (links.nexts q)) j jl
            | no z ↦
                B (g.h + 4 * q + j) (omega arith) ∙ unused w g next n hpos dpos small v (g.h + 4 * q + j) (omega arith) (omega arith)
                ∙ sym (none-new q j (omega arith) ql jl)
          ])
    ]

    in_place : u ≡ encode g (placed n u g.h 0)
    in_place = ext_get_or 0 u (encode g (placed n u g.h 0)) (lu ∙ sym length-new) word_in

  -- ---- by the entries y, of stripe k, in the places from p on

  module _ (k p : ℕ) (y : List Entry) (F : FirstFrom w g.h n (k * g.d) p) (I : InPlace g.h n (k * g.d + g.d) p w y) (sg : Segment g.d k y)
      (L : Filled p (length y) (placed g.e w g.h 0) (placed g.e u g.h 0) y) where
    abbrev A : ℕ → ℕ
    A q = address_at w g.h q

    got : (z : List ℕ) (q : ℕ) → q < g.e → get_or (placed g.e z g.h 0) q no_entry ≡ entry_in z g.h q
    got z q l = table_get g.e 0 q (entry_in z g.h) l ∙ ap (λ (j : ℕ). entry_in z g.h j) (zero-add q)

    kept-address : (q : ℕ) → q < n → address_at u g.h q ≡ address_at w g.h q
    kept-address q o =
        let r : n ≤ g.e = room in
        let within : p + length y ≤ n = I.within in
        let lt : length (placed g.e w g.h 0) ≡ g.e = length-table g.e 0 (entry_in w g.h) in
        let lp : length (take p (placed g.e w g.h 0)) ≡ p = length-take-le p (placed g.e w g.h 0) (omega arith) in
        let us : List Entry = placed g.e u g.h 0 in
        let ws : List Entry = placed g.e w g.h 0 in
        let front : q < p + length y → entry_in u g.h q ≡ get_or (take p (placed g.e w g.h 0) ++ take (length y) y) q no_entry =
        λ l. sym (got u q (omega arith)) ∙ sym (get_or-take (p + length y) us q no_entry l) ∙ ap (λ (z : List Entry). get_or z q no_entry) L.front in
        elim (dec_lt q p) [
          | yes l ↦ ap (λ (x : Entry). x.address) (front (omega arith) ∙ get_or-append (take p ws) (take (length y) y) no_entry q (omega arith)
              ∙ get_or-take p ws q no_entry l ∙ got w q (omega arith))
          | no l ↦ elim (dec_lt q (p + length y)) [
            | yes m ↦
                let j : ℕ = q - p in
                let z : length (take p (placed g.e w g.h 0)) + (q - p) ≡ q = omega arith in
                let z' : p + (q - p) ≡ q = omega arith in
                ap (λ (x : Entry). x.address) (front m ∙ ap (λ (i : ℕ). get_or (take p ws ++ take (length y) y) i no_entry) (sym z)
                ∙ get_or-append-add (take p ws) (take (length y) y) j no_entry ∙ ap (λ (es : List Entry). nth es j) (take_all (length y) y (omega arith)))
                ∙ sym (I.here j (omega arith)) ∙ ap A z'
            | no m ↦
                let z : p + length y + (q - (p + length y)) ≡ q = omega arith in
                ap (λ (x : Entry). x.address) (sym (got u q (omega arith)) ∙ ap (λ (i : ℕ). get_or us i no_entry) (sym z)
                ∙ sym (get_or-drop (p + length y) us (q - (p + length y)) no_entry) ∙ ap (λ (x : List Entry). get_or x (q - (p + length y)) no_entry) (L.back (length y) (omega arith))
                ∙ get_or-drop (p + length y) ws (q - (p + length y)) no_entry ∙ ap (λ (i : ℕ). get_or ws i no_entry) z ∙ got w q (omega arith))
          ]
        ]

    -- the stripes of the places below, there, and behind
    stripe-below : (q : ℕ) → q < p → A q / g.d < k
    stripe-below q o = (div-lt_iff_lt-mul dpos).1 (F.lower q o)

    stripe-here : (q : ℕ) → p ≤ q → q < p + length y → A q / g.d ≡ k
    stripe-here q o l =
        let z : p + (q - p) ≡ q = omega arith in
        ap (λ (i : ℕ). A i / g.d) (sym z) ∙ ap (λ (i : ℕ). i / g.d) (I.here (q - p) (omega arith)) ∙ sg.stripe (q - p) (omega arith)

    stripe-behind : (q : ℕ) → p + length y ≤ q → q < n → k < A q / g.d
    stripe-behind q o l =
        let first : k * g.d + g.d ≤ A (p + length y) = I.behind (omega arith) in
        let up : A (p + length y) ≤ A q = elim (dec_lt (p + length y) q) [
          | yes m ↦ let r = rises_to w g next n hpos dpos small v (p + length y) q m l in omega arith
          | no m ↦ let e : p + length y ≡ q = omega arith in rw e (omega arith)
        ] in
        elim (dec_lt k (A q / g.d)) [
          | yes m ↦ m
          | no m ↦
              let s : A q / g.d < suc k = omega arith in
              let t : A q < suc k * g.d = (div-lt_iff_lt-mul dpos).0 s in
              let e : suc k * g.d ≡ k * g.d + g.d = suc-mul k g.d in
              absurd (omega arith)
        ]

    abbrev m : ℕ
    m = n - length y

    abbrev lo : List Entry
    lo = table p 0 (entry_in w g.h)

    abbrev hi : List Entry
    hi = table (m - p) (p + length y) (entry_in w g.h)

    left : drop_stripe g.d k (entries w g) ≡ lo ++ hi
    left =
        let within : p + length y ≤ n = I.within in
        let f : ℕ → Entry = entry_in w g.h in
        let z1 : n ≡ p + (length y + (n - length y - p)) = omega arith in
        let z2 : 0 + p ≡ p = omega arith in
        let t : ℕ → Bool = λ x. eqb x k in
        ap (drop_stripe g.d k) (entries-placed ∙ ap (λ (j : ℕ). table j 0 f) z1 ∙ table-append p (length y + (n - length y - p)) 0 f
        ∙ ap (λ (j : ℕ). table p 0 f ++ table (length y + (n - length y - p)) j f) z2 ∙ ap (λ (es : List Entry). table p 0 f ++ es) (table-append (length y) (n - length y - p) p f))
        ∙ drop_more g.d t f p 0 (table (length y) p f ++ table (n - length y - p) (p + length y) f) (λ q o l. ne_eqb (A q / g.d) k (λ e. let s = stripe-below q (omega arith) in omega arith))
        ∙ ap (λ (es : List Entry). table p 0 f ++ es)
        (drop_away g.d t f (length y) p (table (n - length y - p) (p + length y) f) (λ q o l. eq-eqb (A q / g.d) k (stripe-here q o l))
        ∙ drop-table g.d t f (n - length y - p) (p + length y) (λ q o l. ne_eqb (A q / g.d) k (λ e. let s = stripe-behind q o (omega arith) in omega arith)))

    length_left : length (drop_stripe g.d k (entries w g)) ≡ n - length y
    length_left =
        let within : p + length y ≤ n = I.within in
        let a : length lo ≡ p = length-table p 0 (entry_in w g.h) in
        let b : length hi ≡ n - length y - p = length-table (n - length y - p) (p + length y) (entry_in w g.h) in
        ap length left ∙ length-append lo hi ∙ (let s : length lo + length hi ≡ n - length y = omega arith in s)

    opened : Opened g.d k (length y) (n - length y) (drop_stripe g.d k (entries w g)) (placed g.e w g.h 0) p
    opened =
        let within : p + length y ≤ n = I.within in
        let r : n ≤ g.e = room in
        let f : ℕ → Entry = entry_in w g.h in
        let z : 0 + (p + length y) ≡ p + length y = omega arith in
        let ll : length (drop_stripe g.d k (entries w g)) ≡ n - length y = length_left in
        let front : take p (placed g.e w g.h 0) ≡ lo = table-take p g.e 0 f (omega arith) in
        let back : take (n - length y - p) (drop (p + length y) (placed g.e w g.h 0)) ≡ hi =
        ap (take (n - length y - p)) (table-drop (p + length y) g.e 0 f (omega arith))
        ∙ table-take (n - length y - p) (g.e - (p + length y)) (0 + (p + length y)) f (omega arith) ∙ ap (λ (j : ℕ). table (n - length y - p) j f) z in
        record {
          opening = record {
            within = omega arith;
            parts = ap₂ (λ (es fs : List Entry). es ++ fs) front back ∙ sym left ∙ sym (take_all (n - length y) (drop_stripe g.d k (entries w g)) (omega arith));
            higher = subst (NotBelow g.d k) (sym back) (not-below g.d k (n - length y - p) (p + length y) f (λ q o l. let s = stripe-behind q o (omega arith) in omega arith));
          };
          lower = λ o. subst (λ (x : Entry). x.address / g.d < k) (sym (got w (p - 1) (omega arith))) (stripe-below (p - 1) (omega arith));
        }

    replaced : take n (placed g.e u g.h 0) ≡ merged y (drop_stripe g.d k (entries w g))
    replaced =
        let within : p + length y ≤ n = I.within in
        let r : n ≤ g.e = room in
        let z : n ≡ n - length y + length y = omega arith in
        let ll : length (drop_stripe g.d k (entries w g)) ≡ n - length y = length_left in
        ap (λ (j : ℕ). take j (placed g.e u g.h 0)) z
        ∙ merged-placed w g next n k hpos dpos small v (n - length y) p (drop_stripe g.d k (entries w g)) (placed g.e w g.h 0) (placed g.e u g.h 0) y
        (length-table g.e 0 (entry_in w g.h)) (omega arith) sg (take_all (n - length y) (drop_stripe g.d k (entries w g)) (omega arith)) opened L

    pub replaced_words : u ≡ encode g (merged y (drop_stripe g.d k (entries w g)))
    replaced_words =
        in_place kept-address ∙ ap (encode g) (sym (table-take n g.e 0 (entry_in u g.h) room) ∙ replaced)

    pub replaced_count : n ≡ length (merged y (drop_stripe g.d k (entries w g)))
    replaced_count =
        let r : n ≤ g.e = room in
        let l : length (placed g.e u g.h 0) ≡ g.e = length-table g.e 0 (entry_in u g.h) in
        sym (length-take-le n (placed g.e u g.h 0) (omega arith)) ∙ ap length replaced
