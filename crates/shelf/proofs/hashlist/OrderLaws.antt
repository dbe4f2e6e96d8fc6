-- The listed places of a list that passes number 3 rise in address: the first place from an address on, and what the list says of an
-- address, from that place.
-- Assumes nothing.
use mathlib.Core.Bool.{Bool, true, false}
use mathlib.Core.List.{List, []}
use mathlib.Core.Logic.{◌≢◌}
use mathlib.Core.Path.{◌≡◌, refl, sym, ap, ◌∙◌, subst}
use Prim.Native.Nat.{ℕ, zero, suc, ◌+◌, ◌*◌, ◌-◌, ◌/◌, ◌≤◌, ◌<◌}
use native.Mathlib.Decide.{dec_lt}
use native.Mathlib.Omega.{arith}
use lib.Dec.{ltb}
use lib.ListN.{length, get_or, take, drop}
use lib.Seq.{get_or-take, get_or-drop, length-take-le}
use borrow.Author.Tests.{lt-ltb, ltb-true, ltb-false}
use Rattle.std.specs.Simd.{first_chunks}
use Rattle.std.specs.List.Sorted.{IsPartitionedBy, IsPartitionPoint}
use Rattle.std.proofs.lemmas.List.{drop-drop, length-drop}
use Rattle.shelf.proofs.hashlist.WordLaws.{words-take, words-drop}
use Rattle.shelf.specs.declared.record.Geometry.{Geometry}
use Rattle.shelf.specs.Words.{words}
use Rattle.shelf.specs.below.Checking.{HasPlace}
use Rattle.shelf.specs.below.Lists.{Measures, Lists, FirstFrom}
use Rattle.shelf.specs.HashList.{none_word, address_at, valid, Entry, entry, entry_in, entries, said}
use Rattle.shelf.proofs.hashlist.DecodeLaws.{InE, Stands}
use Rattle.shelf.proofs.hashlist.FoundLaws.{entries_taken, entries_rising, entries-count, listed_room}
use Rattle.shelf.proofs.hashlist.CheckLaws.{stands_in, stands_at, rising_up, up_from}
use Rattle.shelf.proofs.hashlist.PickLaws.{pick_in, pick_out}
use Rattle.shelf.proofs.hashlist.ListMeaning.{said_entries}

-- there are places for all that is listed
pub lists-room : (l : List ℕ) (g : Geometry) (n : ℕ) → Measures g l → Lists (words l) g n → n ≤ g.e
lists-room l g n m v = listed_room (words l) g v.next n m.h0 m.d0 m.e1 v.passing

-- and so a listed place lies within its bytes
pub place_within : (l : List ℕ) (g : Geometry) (n : ℕ) → Measures g l → Lists (words l) g n → (p : ℕ) → p < n → HasPlace g.h p (length l)
place_within l g n m v p h = let room = lists-room l g n m v in (m.h1, (omega (arith, room, m.e1), omega (arith, room, m.len)))

-- ---- the first n places as parts of sixteen bytes

abbrev pub place_parts : List ℕ → ℕ → ℕ → List (List ℕ)
place_parts l h n = take n (first_chunks 16 (length (drop (4 * h) l) / 16) (drop (4 * h) l))

chunk_at : (m i x : ℕ) (xs d : List ℕ) → i < m → x ≡ 16 * i → get_or (first_chunks 16 m xs) i d ≡ take 16 (drop x xs)
chunk_at zero i x xs d o e = absurd (omega arith)
chunk_at (suc m) zero x xs d o e = let z : x ≡ 0 = omega arith in rw z refl
chunk_at (suc m) (suc i) x xs d o e =
    let z : 16 + 16 * i ≡ x = omega arith in
    chunk_at m i (16 * i) (drop 16 xs) d (omega arith) refl ∙ ap (take 16) (drop-drop (16 * i) 16 xs ∙ ap (λ (k : ℕ). drop k xs) z)

length-chunks : (m : ℕ) (xs : List ℕ) → length (first_chunks 16 m xs) ≡ m
length-chunks zero xs = refl
length-chunks (suc m) xs = ap suc (length-chunks m (drop 16 xs))

-- each has its address in front
part_address : (l d : List ℕ) (h n i : ℕ) → i < n → 4 * (h + 4 * n) ≤ length l → get_or (words (get_or (place_parts l h n) i d)) 0 0 ≡ address_at (words l) h i
part_address l d h n i o long =
    let b : List ℕ = drop (4 * h) l in
    let m : ℕ = length b / 16 in
    let lb : length b ≡ length l - 4 * h = length-drop (4 * h) l in
    let im : i < m = omega arith in
    let z : h + (4 * i + 0) ≡ h + 4 * i = omega arith in
    ap (λ (x : List ℕ). get_or (words x) 0 0) (get_or-take n (first_chunks 16 m b) i d o ∙ chunk_at m i (16 * i) b d im refl)
    ∙ ap (λ (w : List ℕ). get_or w 0 0) (words-take (drop (16 * i) b) 4 16 refl)
    ∙ get_or-take 4 (words (drop (16 * i) b)) 0 0 (omega arith)
    ∙ ap (λ (w : List ℕ). get_or w 0 0) (words-drop b (4 * i) (16 * i) (omega arith))
    ∙ get_or-drop (4 * i) (words b) 0 0
    ∙ ap (λ (w : List ℕ). get_or w (4 * i + 0) 0) (words-drop l h (4 * h) refl)
    ∙ get_or-drop h (words l) (4 * i + 0) 0
    ∙ ap (λ (k : ℕ). get_or (words l) k 0) z

module _ (w : List ℕ) (g : Geometry) (next listed : ℕ) (hpos : 0 < g.h) (dpos : 0 < g.d) (small : g.e ≤ 4096)
    (v : valid w g next listed ≡ true) where
  abbrev A : ℕ → ℕ
  A q = address_at w g.h q

  stand : Stands w g.h 0 (entries w g)
  stand = (entries_taken w g).0

  many : length (entries w g) ≡ listed
  many = entries-count w g next listed hpos dpos small v

  -- addresses rise over the listed places
  pub rise : (p : ℕ) → p + 1 < length (entries w g) → A p < A (p + 1)
  rise p o = rising_up w g.h 0 0 (entries w g) stand (entries_rising w g next listed hpos dpos small v) p (omega arith) (omega arith)

  pub rises_to : (p q : ℕ) → p < q → q < listed → A p < A q
  rises_to p q o l =
      let m : length (entries w g) ≡ listed = many in
      let k = up_from A (length (entries w g)) rise p q (omega arith) (omega arith) in omega arith

  -- what stands in a listed place is an entry
  pub in_list : (q : ℕ) → q < listed → InE (entry_in w g.h q) (entries w g)
  in_list q o =
      let m : length (entries w g) ≡ listed = many in
      stands_in w g.h 0 (entries w g) q stand (omega arith) (omega arith)

  -- ---- those with a lower address than a stand first, and are as many as the first place from a on says

  module _ (l : List ℕ) (ws : words l ≡ w) (long : 4 * (g.h + 4 * listed) ≤ length l) (a : ℕ) where
    below : List ℕ → Bool
    below x = ltb (get_or (words x) 0 0) a

    part : (i : ℕ) (d : List ℕ) → i < listed → get_or (words (get_or (place_parts l g.h listed) i d)) 0 0 ≡ A i
    part i d o = part_address l d g.h listed i o long ∙ ap (λ (u : List ℕ). address_at u g.h i) ws

    parts-many : length (place_parts l g.h listed) ≡ listed
    parts-many =
        let b : List ℕ = drop (4 * g.h) l in
        let lb : length b ≡ length l - 4 * g.h = length-drop (4 * g.h) l in
        let m : length (first_chunks 16 (length b / 16) b) ≡ length b / 16 = length-chunks (length b / 16) b in
        length-take-le listed (first_chunks 16 (length b / 16) b) (omega arith)

    pub parts-parted : IsPartitionedBy (λ x. ltb (get_or (words x) 0 0) a) (place_parts l g.h listed)
    parts-parted i j d o m t =
        let k : length (place_parts l g.h listed) ≡ listed = parts-many in
        let jl : j < listed = omega arith in
        let low : A j < a = subst (λ (y : ℕ). y < a) (part j d jl) (ltb-true _ a t) in
        lt-ltb _ a (subst (λ (y : ℕ). y < a) (sym (part i d (omega arith)))
        (elim (dec_lt i j) [
          | yes y ↦ let r = rises_to i j y jl in omega arith
          | no y ↦ let e : i ≡ j = omega arith in rw e low
        ]))

    pub parts-first : (p : ℕ) → p ≤ length (place_parts l g.h listed)
        → IsPartitionPoint (λ x. ltb (get_or (words x) 0 0) a ≡ true) (λ x. ltb (get_or (words x) 0 0) a ≡ false) (place_parts l g.h listed) p
        → FirstFrom w g.h listed a p
    parts-first p o P =
        let k : length (place_parts l g.h listed) ≡ listed = parts-many in
        record {
          within = omega arith;
          lower = λ q u. subst (λ (y : ℕ). y < a) (part q [] (omega arith)) (ltb-true _ a (P.0 q [] (omega arith) u));
          higher = λ q u v. subst (λ (y : ℕ). a ≤ y) (part q [] v) (ltb-false _ a (P.1 q [] u (omega arith)));
        }

  -- ---- what the list says of address a, from the first place p whose address is a or above

  module _ (a p : ℕ) (F : FirstFrom w g.h listed a p) where
    -- it is what stands there
    pub said_here : p < listed → A p ≡ a → said w g a ≡ entry_in w g.h p
    said_here o e =
        sym (said_entries w g next listed hpos dpos small v a)
        ∙ pick_in 0 (entries w g) (entry_in w g.h p) a (entries_rising w g next listed hpos dpos small v) (in_list p o) e

    pub first_past : p < listed → A p ≡ a → FirstFrom w g.h listed (a + 1) (p + 1)
    first_past o e =
        record {
          within = omega arith;
          lower = λ q z. elim (dec_lt q p) [
            | yes y ↦ let k = F.lower q y in omega arith
            | no y ↦ let k : q ≡ p = omega arith in rw k (omega arith)
          ];
          higher = λ q z y. let k = rises_to p q (omega arith) y in omega arith;
        }

    -- or the address is not listed
    module _ (ne : p < listed → A p ≢ a) where
      above : (q : ℕ) → p ≤ q → q < listed → a < A q
      above q o l =
          let s : p < listed = omega arith in
          let k = F.higher p (omega arith) s in
          let n : A p ≢ a = ne s in
          elim (dec_lt p q) [
            | yes x ↦ let j = rises_to p q x l in omega arith
            | no x ↦ let j : q ≡ p = omega arith in rw j (omega arith)
          ]

      pub said_nowhere : said w g a ≡ entry a none_word none_word
      said_nowhere =
          sym (said_entries w g next listed hpos dpos small v a)
          ∙ pick_out (entries w g) a (λ x i e.
          let t = stands_at w g.h 0 (entries w g) x stand i in
          let m : length (entries w g) ≡ listed = many in
          let u : t.place < 0 + length (entries w g) = t.under in
          let is : A t.place ≡ a = ap (λ (y : Entry). y.address) (sym t.is) ∙ e in
          elim (dec_lt t.place p) [
            | yes z ↦ let k = F.lower t.place z in omega arith
            | no z ↦ let k = above t.place (omega arith) (omega arith) in omega arith
          ])

      pub first_stays : FirstFrom w g.h listed (a + 1) p
      first_stays =
          record {
            within = F.within;
            lower = λ q z. let k = F.lower q z in omega arith;
            higher = λ q z y. let k = above q z y in omega arith;
          }
