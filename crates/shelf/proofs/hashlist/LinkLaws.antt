-- The links of a list, by what they lead to: those of the one list for given entries, that they tell it, and how they change where places are taken
-- out or put in.
-- Assumes nothing.
use mathlib.Core.Bool.{Bool, true}
use mathlib.Core.List.{List, ◌∷◌, ◌++◌}
use mathlib.Core.Logic.{◌⊎◌, inl, inr, ⊎_elim, ◌≢◌}
use mathlib.Core.Path.{◌≡◌, refl, sym, ap, ap₂, ◌∙◌, subst}
use Prim.Native.Nat.{ℕ, zero, suc, ◌+◌, ◌*◌, ◌-◌, ◌/◌, ◌%◌, ◌≤◌, ◌<◌, zero-le}
use native.Mathlib.Decide.{ℕ_discrete, dec_lt}
use native.Mathlib.Nat.{mod-lt, zero-add, suc-mul, mul-suc, mul-le-mul, le_refl, div-lt_iff_lt-mul}
use native.Mathlib.Omega.{arith}
use lib.Dec.{eqb, ltb}
use lib.ListN.{length, get_or, set, take, drop, get_or-append, length-set, replicate, length-replicate, get_or-replicate}
use lib.Seq.{ext_get_or, get_or-set_same, get_or-set_other, get_or-take, get_or-drop, length-take-le}
use Rattle.std.proofs.lemmas.List.{get_or-append_right}
use borrow.Author.Tests.{lt-ltb, le-ltb, eq-eqb, ne_eqb, eqb-false}
use Rattle.shelf.specs.declared.record.Geometry.{Geometry}
use Rattle.shelf.specs.Words.{words, bytes_of}
use Rattle.shelf.specs.below.Lists.{Measures, Lists, FirstFrom}
use Rattle.shelf.specs.HashList.{none_word, address_at, next_at, valid, Entry, entry_in, entries, put_front, put_all, encode}
use Rattle.shelf.specs.below.Rewriting.{Rewritten, drop_stripe, table, placed, put_entry, without, Blanked, KeptFrom, Leads, Chained, skip, Upward, Lowers, next_behind, Relabelled, FrontRelabelled, Down, MovedDown, Put, Up, MovedUp, GapMade, LastBelow, LinkedIn, merged, Replaces, Segment, LinksKept, NotBelow, Opened, Filled}
use Rattle.shelf.proofs.general.TestLaws.{choose_true, choose_false}
use Rattle.shelf.proofs.general.AddressLaws.{stripe_of_lem}
use Rattle.shelf.proofs.hashlist.ChainLaws.{entry_eq, length-all, front_head, front_next, front_slot, front_place}
use Rattle.shelf.proofs.hashlist.CheckLaws.{place_words, stands_same}
use Rattle.shelf.proofs.hashlist.DecodeLaws.{InE, Stands, stands, put-unused}
use Rattle.shelf.proofs.hashlist.FoundLaws.{entries_taken, entries_rising, entries-count, list-is, listed_room, unused}
use Rattle.shelf.proofs.hashlist.TableLaws.{no_entry, length-table, table_get, table-take, table_ext, three_same, other_words}
use Rattle.shelf.proofs.hashlist.EntryLaws.{drop_in, drop-none, length_merged, spread_merged}
use Rattle.shelf.proofs.hashlist.AlterLaws.{dropped}
use Rattle.shelf.proofs.hashlist.InPlaceLaws.{stands_table, table-append, table-drop, drop_more, drop_away, drop-table, not-below}
use Rattle.shelf.proofs.hashlist.WordLaws.{bytes-words}

-- ---- tables

table_shift : (n i j : ℕ) (f t : ℕ → Entry) → ((q : ℕ) → q < n → f (i + q) ≡ t (j + q)) → table n i f ≡ table n j t
unfolding table
table_shift zero i j f t s = refl
table_shift (suc n) i j f t s =
    let e : (k q : ℕ) → k + 1 + q ≡ k + (q + 1) = λ k q. omega arith in
    let z : (k : ℕ) → k ≡ k + 0 = λ k. omega arith in
    ap₂ (λ (y : Entry) (ys : List Entry). y ∷ ys) (ap f (z i) ∙ s 0 (omega arith) ∙ ap t (sym (z j)))
    (table_shift n (i + 1) (j + 1) f t (λ q o. ap f (e i q) ∙ s (q + 1) (omega arith) ∙ ap t (sym (e j q))))

-- ---- a link is one number

pub lead_same : (f : ℕ → ℕ) (s a n y z : ℕ) → n ≤ 4096 → Leads f s a n 0 0 y → Leads f s a n 0 0 z → y ≡ z
lead_same f s a n y z small Y Z =
    ⊎_elim
    (λ yn. ⊎_elim (λ zn. yn ∙ sym zn)
    (λ zi. let zl : z < n = zi.1.0 in absurd (Y.before z zi.0 zl (omega arith) (λ o. o) zi.1.1.0)) Z.here)
    (λ yi.
    let yl : y < n = yi.1.0 in
    ⊎_elim
    (λ zn. absurd (Z.before y yi.0 yl (omega arith) (λ o. o) yi.1.1.0))
    (λ zi.
    let zl : z < n = zi.1.0 in
    elim (dec_lt y z) [
      | yes o ↦ absurd (Z.before y yi.0 yl o (λ u. u) yi.1.1.0)
      | no o ↦ elim (dec_lt z y) [
        | yes u ↦ absurd (Y.before z zi.0 zl u (λ x. x) zi.1.1.0)
        | no u ↦ (let e : y ≡ z = omega arith in e)
      ]
    ])
    Z.here)
    Y.here

-- ---- the links of entries put from place p on

module _ (h e : ℕ) (hpos : 0 < h) (small : e ≤ 4096) (t : ℕ → Entry) where
  abbrev f : ℕ → ℕ
  f q = (t q).address % h

  abbrev made : ℕ → ℕ → List ℕ
  made n p = put_all (replicate (h + 4 * e) none_word) h p (table n p t)

  length-made : (n p : ℕ) → length (made n p) ≡ h + 4 * e
  length-made n p = length-all (replicate (h + 4 * e) none_word) h p (table n p t) ∙ length-replicate (h + 4 * e) none_word

  made-heads : (n p : ℕ) → p + n ≤ e → (s : ℕ) → s < h → Leads f s p (p + n) 0 0 (get_or (made n p) s 0)
  unfolding put_all table
  made-heads zero p o s l =
      record {
        before = λ q a b. absurd (omega arith);
        here = inl (get_or-replicate (h + 4 * e) s none_word 0 (omega arith));
      }
  made-heads (suc n) p o s l =
      let w : List ℕ = made n (p + 1) in
      let len : length (made n (p + 1)) ≡ h + 4 * e = length-made n (p + 1) in
      let pe : p < e = omega arith in
      let z : p + 1 + n ≡ p + suc n = omega arith in
      let ih : Leads f s (p + 1) (p + suc n) 0 0 (get_or (made n (p + 1)) s 0) =
      subst (λ (m : ℕ). Leads f s (p + 1) m 0 0 (get_or (made n (p + 1)) s 0)) z (made-heads n (p + 1) (omega arith) s l) in
      elim (ℕ_discrete s (f p)) [
        | yes u ↦
            let hd : get_or (put_front w h p (t p)) s 0 ≡ p = ap (λ (k : ℕ). get_or (put_front w h p (t p)) k 0) u ∙ front_head w h e p (t p) hpos pe len in
            subst (λ (y : ℕ). Leads f s p (p + suc n) 0 0 y) (sym hd)
            (record { before = λ q a b c. absurd (omega arith); here = inr (omega arith, (omega arith, (sym u, λ x. x))) })
        | no u ↦
            subst (λ (y : ℕ). Leads f s p (p + suc n) 0 0 y) (sym (front_slot w h e p (t p) hpos pe len s l u))
            (record {
              before = λ q a b c d. elim (ℕ_discrete q p) [
                | yes x ↦ λ r. u (sym r ∙ ap f x)
                | no x ↦ ih.before q (omega arith) b c d
              ];
              here = ⊎_elim (λ x. inl x) (λ x. inr (omega (arith, x.0), x.1)) ih.here;
            })
      ]

  made-nexts : (n p : ℕ) → p + n ≤ e → (q : ℕ) → p ≤ q → q < p + n → Leads f (f q) (q + 1) (p + n) 0 0 (next_at (made n p) h q)
  unfolding put_all table
  made-nexts zero p o q a b = absurd (omega arith)
  made-nexts (suc n) p o q a b =
      let w : List ℕ = made n (p + 1) in
      let len : length (made n (p + 1)) ≡ h + 4 * e = length-made n (p + 1) in
      let pe : p < e = omega arith in
      let z : p + 1 + n ≡ p + suc n = omega arith in
      elim (ℕ_discrete q p) [
        | yes u ↦
            let nx : next_at (put_front w h p (t p)) h q ≡ get_or w (f q) 0 =
            ap (λ (k : ℕ). next_at (put_front w h p (t p)) h k) u ∙ front_next w h e p (t p) hpos pe len ∙ ap (λ (k : ℕ). get_or w (f k) 0) (sym u) in
            let u1 : p + 1 ≡ q + 1 = omega arith in
            subst (λ (y : ℕ). Leads f (f q) (q + 1) (p + suc n) 0 0 y) (sym nx)
            (subst (λ (m : ℕ). Leads f (f q) (q + 1) m 0 0 (get_or w (f q) 0)) z
            (subst (λ (k : ℕ). Leads f (f q) k (p + 1 + n) 0 0 (get_or w (f q) 0)) u1
            (made-heads n (p + 1) (omega arith) (f q) (mod-lt (t q).address hpos))))
        | no u ↦
            subst (λ (y : ℕ). Leads f (f q) (q + 1) (p + suc n) 0 0 y) (sym (front_place w h e p (t p) hpos pe len q 3 (omega arith) (omega arith)))
            (subst (λ (m : ℕ). Leads f (f q) (q + 1) m 0 0 (next_at w h q)) z (made-nexts n (p + 1) (omega arith) q (omega arith) (omega arith)))
      ]

-- ---- words that hold entries and their links, and none behind, are the one list for them

module _ (g : Geometry) (hpos : 0 < g.h) (small : g.e ≤ 4096) (t : ℕ → Entry) (n : ℕ) (room : n ≤ g.e) where
  abbrev slot : ℕ → ℕ
  slot q = (t q).address % g.h

  abbrev one : List ℕ
  one = encode g (table n 0 t)

  length-one : length one ≡ g.h + 4 * g.e
  unfolding encode
  length-one = length-made g.h g.e hpos small t n 0

  pub one-chained : Chained slot g.h n 0 0 one
  unfolding encode
  one-chained =
      let z : 0 + n ≡ n = zero-add n in
      record {
        heads = λ s l. subst (λ (m : ℕ). Leads slot s 0 m 0 0 (get_or one s 0)) z (made-heads g.h g.e hpos small t n 0 (omega arith) s l);
        nexts = λ q l c. subst (λ (m : ℕ). Leads slot (slot q) (q + 1) m 0 0 (next_at one g.h q)) z
            (made-nexts g.h g.e hpos small t n 0 (omega arith) q (omega arith) (omega arith));
      }

  one_stands : Stands one g.h 0 (table n 0 t)
  unfolding encode
  one_stands = stands g.h g.e hpos small 0 (table n 0 t) (let l : length (table n 0 t) ≡ n = length-table n 0 t in omega arith)

  one_none : (q j : ℕ) → n ≤ q → q < g.e → j < 4 → get_or one (g.h + 4 * q + j) 0 ≡ none_word
  unfolding encode
  one_none q j o l k =
      let z : length (table n 0 t) ≡ n = length-table n 0 t in
      put-unused g.h g.e hpos small 0 (table n 0 t) q j (omega arith) l k

  stands_fun : (w : List ℕ) (m p : ℕ) → ((q : ℕ) → p ≤ q → q < p + m → entry_in w g.h q ≡ t q) → Stands w g.h p (table m p t)
  unfolding table
  stands_fun w zero p s = tt
  stands_fun w (suc m) p s = (s p (omega arith) (omega arith), stands_fun w m (p + 1) (λ q o l. s q (omega arith) (omega arith)))

  pub told : (w : List ℕ) → length w ≡ g.h + 4 * g.e → ((q : ℕ) → q < n → entry_in w g.h q ≡ t q) → Chained slot g.h n 0 0 w
      → ((i : ℕ) → g.h + 4 * n ≤ i → i < g.h + 4 * g.e → get_or w i 0 ≡ none_word) → w ≡ encode g (table n 0 t)
  told w lw es C un = ext_get_or 0 w one (lw ∙ sym length-one) word
    where
      word : (i : ℕ) → i < length w → get_or w i 0 ≡ get_or one i 0
      word i l = elim (dec_lt i g.h) [
        | yes o ↦ lead_same slot i 0 n (get_or w i 0) (get_or one i 0) (omega arith) (C.heads i o) (one-chained.heads i o)
        | no o ↦
            let q : ℕ = (i - g.h) / 4 in
            let j : ℕ = (i - g.h) % 4 in
            let is : g.h + 4 * ((i - g.h) / 4) + (i - g.h) % 4 ≡ i = omega arith in
            let jl : (i - g.h) % 4 < 4 = omega arith in
            let ql : (i - g.h) / 4 < g.e = omega arith in
            subst (λ (k : ℕ). get_or w k 0 ≡ get_or one k 0) is (elim (dec_lt q n) [
              | yes z ↦
                  let en : entry_in w g.h q ≡ entry_in one g.h q =
                  stands_same w one g.h 0 (table n 0 t) q (stands_fun w n 0 (λ k a b. es k (omega arith))) one_stands (omega arith)
                  (let y : length (table n 0 t) ≡ n = length-table n 0 t in omega arith) in
                  place_words w one g.h q (ap (λ (x : Entry). x.address) en) (ap (λ (x : Entry). x.ori) en) (ap (λ (x : Entry). x.cur) en)
                  (lead_same slot (slot q) (q + 1) n (next_at w g.h q) (next_at one g.h q) (omega arith) (C.nexts q z (λ x. x)) (one-chained.nexts q z (λ x. x))) j jl
              | no z ↦ un (g.h + 4 * q + j) (omega arith) (omega arith) ∙ sym (one_none q j (omega arith) ql jl)
            ])
      ]

-- ---- the places from p on, below t, taken out

pub skip-low : (p t q : ℕ) → q < p → skip p t q ≡ q
skip-low p t q o = choose_true (ltb q p) q (q + (t - p)) (lt-ltb q p o)

pub skip_high : (p t q : ℕ) → p ≤ q → skip p t q ≡ q + (t - p)
skip_high p t q o = choose_false (ltb q p) q (q + (t - p)) (le-ltb q p o)

-- the link z leads past no place of slot s from a on, below n, that stays; it may lead to one that is taken out
pub record Passes (f : ℕ → ℕ) (s a n p t z : ℕ) : Type 0 where
  pub before : (q : ℕ) → a ≤ q → q < n → q < z → (p ≤ q → t ≤ q) → f q ≢ s
  pub here : (z ≡ none_word) ⊎ ((a ≤ z) × ((z < n) × (f z ≡ s)))

-- the link y led to z
abbrev pub Passing : (ℕ → ℕ) → ℕ → ℕ → ℕ → ℕ → Type 0
Passing next p t y z =
    (f : ℕ → ℕ) (s a n : ℕ) → a ≤ p → t ≤ n → n ≤ 4096 → ((q : ℕ) → p ≤ q → q < t → Leads f (f q) (q + 1) n 0 0 (next q))
    → Leads f s a n 0 0 y → Passes f s a n p t z

pub passing-start : (next : ℕ → ℕ) (p t y : ℕ) → Passing next p t y y
passing-start next p t y f s a n o l m C L =
    record {
      before = λ q i j k x. L.before q i j k (λ u. u);
      here = ⊎_elim (λ z. inl z) (λ z. inr (z.0, (z.1.0, z.1.1.0))) L.here;
    }

pub passing_turn : (next : ℕ → ℕ) (p t y z r : ℕ) → p ≤ z → z < t → r ≡ next z → Passing next p t y z → Passing next p t y r
passing_turn next p t y z r pz zt is P f s a n o l m C L =
    let old = P f s a n o l m C L in
    let at : f z ≡ s = ⊎_elim (λ u. absurd (omega arith)) (λ u. u.1.1) old.here in
    let on : Leads f (f z) (z + 1) n 0 0 r = subst (λ (k : ℕ). Leads f (f z) (z + 1) n 0 0 k) (sym is) (C z pz zt) in
    record {
      before = λ q i j k x. elim (dec_lt q p) [
        | yes u ↦ old.before q i j (omega arith) x
        | no u ↦ let v : t ≤ q = x (omega arith) in λ e. on.before q (omega arith) j k (λ b. b) (e ∙ sym at)
      ];
      here = ⊎_elim (λ u. inl u) (λ u. inr (omega (arith, u.0), (u.1.0, u.1.1.0 ∙ at))) on.here;
    }

module _ (next : ℕ → ℕ) (p t y z : ℕ) (pt : p ≤ t) (P : Passing next p t y z) where
  pub lowers_low : z < p → Lowers next p t y z
  lowers_low zp = record {
    leads = λ f s a n o l m C L.
        let old = P f s a n o l m C L in
        record {
          before = λ q i j k x. λ e. old.before q i (omega arith) k (λ b. absurd (omega arith)) (ap f (sym (skip-low p t q (omega arith))) ∙ e);
          here = ⊎_elim (λ u. absurd (omega arith))
              (λ u. inr (u.0, (omega arith, (ap f (skip-low p t z zp) ∙ u.1.1, λ b. b)))) old.here;
        };
  }

  stays : (f : ℕ → ℕ) (s a n : ℕ) → t ≤ n → Passes f s a n p t z → (q : ℕ) → a ≤ q → q < n - (t - p) → (q < p → q < z) → (p ≤ q → q + (t - p) < z) → f (skip p t q) ≢ s
  stays f s a n l old q i j lo hi e = elim (dec_lt q p) [
    | yes u ↦ old.before q i (omega arith) (lo u) (λ b. absurd (omega arith)) (ap f (sym (skip-low p t q u)) ∙ e)
    | no u ↦
        let pq : p ≤ q = omega arith in
        old.before (q + (t - p)) (omega arith) (omega arith) (hi pq) (λ b. omega arith) (ap f (sym (skip_high p t q pq)) ∙ e)
  ]

  pub lowers_none : z ≡ none_word → Lowers next p t y z
  lowers_none zn = record {
    leads = λ f s a n o l m C L.
        let old = P f s a n o l m C L in
        record { before = λ q i j k x. stays f s a n l old q i j (λ b. k) (λ b. omega arith); here = inl zn };
  }

  pub lowers_high : t ≤ z → z ≢ none_word → Lowers next p t y (z - (t - p))
  lowers_high tz ne = record {
    leads = λ f s a n o l m C L.
        let old = P f s a n o l m C L in
        let back : z - (t - p) + (t - p) ≡ z = omega arith in
        record {
          before = λ q i j k x. stays f s a n l old q i j (λ b. omega arith) (λ b. omega arith);
          here = ⊎_elim (λ u. absurd (ne u))
              (λ u. let zl : z < n = u.1.0 in inr (omega arith, (omega arith, (ap f (skip_high p t (z - (t - p)) (omega arith) ∙ back) ∙ u.1.1, λ b. b)))) old.here;
        };
  }

-- the links taken out may be told by others that are the same
pub lowers_same : (next other : ℕ → ℕ) (p t y r : ℕ) → ((q : ℕ) → p ≤ q → q < t → other q ≡ next q) → Lowers other p t y r → Lowers next p t y r
lowers_same next other p t y r same M =
    record { leads = λ f s a n o l m C L. M.leads f s a n o l m (λ q i j. subst (λ (k : ℕ). Leads f (f q) (q + 1) n 0 0 k) (sym (same q i j)) (C q i j)) L }

-- the link of a place behind them
pub leads_down : (f : ℕ → ℕ) (s a n p t y r : ℕ) → p ≤ t → t ≤ a → t ≤ n → n ≤ 4096 → Down (t - p) y r → Leads f s a n 0 0 y
    → Leads (λ q. f (skip p t q)) s (a - (t - p)) (n - (t - p)) 0 0 r
leads_down f s a n p t y r pt ta tn m D L =
    let at : (q : ℕ) → a - (t - p) ≤ q → skip p t q ≡ q + (t - p) = λ q i. skip_high p t q (omega arith) in
    ⊎_elim
    (λ yn.
    record {
      before = λ q i j k x e. L.before (q + (t - p)) (omega arith) (omega arith) (omega arith) (λ b. b) (ap f (sym (at q i)) ∙ e);
      here = inl (D.none yn);
    })
    (λ yi.
    let yl : y < n = yi.1.0 in
    let ay : a ≤ y = yi.0 in
    let is : r ≡ y - (t - p) = D.some (λ e. omega arith) in
    let back : r + (t - p) ≡ y = omega arith in
    record {
      before = λ q i j k x e. L.before (q + (t - p)) (omega arith) (omega arith) (omega arith) (λ b. b) (ap f (sym (at q i)) ∙ e);
      here = inr (omega arith, (omega arith, (ap f (at r (omega arith) ∙ back) ∙ yi.1.1.0, λ b. b)));
    })
    L.here

-- ---- links relabelled one by one

-- the links stand in different words
links-apart : (a s k n : ℕ) → 0 < s → k < n → a + s * k < a + s * n
links-apart a s k n s0 o =
    let m : s * suc k ≤ s * n = mul-le-mul (le_refl s) o in
    let e : s * suc k ≡ s * k + s = mul-suc s k in
    omega arith

module _ (R : ℕ → ℕ → Type 0) where
  pub relabel-start : (a s : ℕ) (w : List ℕ) → Relabelled R a s 0 w w
  relabel-start a s w = record { links = λ k o. absurd (omega arith); others = λ j o. refl }

  pub relabel_turn : (a s n y r : ℕ) (w u v : List ℕ) → 0 < s → a + s * n < length u → Relabelled R a s n w u → y ≡ get_or u (a + s * n) 0 → R y r
      → v ≡ set u (a + s * n) r → Relabelled R a s (n + 1) w v
  relabel_turn a s n y r w u v s0 l L ey Z e =
      let i : ℕ = a + s * n in
      let other : (j : ℕ) → j ≢ i → get_or v j 0 ≡ get_or u j 0 = λ j d. ap (λ (x : List ℕ). get_or x j 0) e ∙ get_or-set_other u i j r 0 d in
      let here : get_or v i 0 ≡ r = ap (λ (x : List ℕ). get_or x i 0) e ∙ get_or-set_same u i r 0 l in
      let old : y ≡ get_or w i 0 = ey ∙ L.others i (λ k o z. let x = links-apart a s k n s0 o in omega arith) in
      record {
        links = λ k o. elim (ℕ_discrete k n) [
          | yes z ↦ subst (λ (j : ℕ). R (get_or w (a + s * j) 0) (get_or v (a + s * j) 0)) (sym z)
              (subst (λ (x : ℕ). R (get_or w i 0) x) (sym here) (subst (λ (x : ℕ). R x r) old Z))
          | no z ↦
              let on : k < n = omega arith in
              subst (λ (x : ℕ). R (get_or w (a + s * k) 0) x) (sym (other (a + s * k) (λ b. let x = links-apart a s k n s0 on in omega arith))) (L.links k on)
        ];
        others = λ j f. other j (f n (omega arith)) ∙ L.others j (λ k o. f k (omega arith));
      }

  -- the heads, and then the Next words
  pub front_relabelled : (h p : ℕ) (w u v : List ℕ) → Relabelled R 0 1 h w u → Relabelled R (h + 3) 4 p u v → FrontRelabelled R h p w v
  front_relabelled h p w u v A B =
      let one : (k : ℕ) → 0 + 1 * k ≡ k = λ k. omega arith in
      let next : (q : ℕ) → h + 3 + 4 * q ≡ h + 4 * q + 3 = λ q. omega arith in
      let head : (s : ℕ) → s < h → get_or v s 0 ≡ get_or u s 0 = λ s o. B.others s (λ k l z. omega arith) in
      let high : (j : ℕ) → h ≤ j → get_or u j 0 ≡ get_or w j 0 = λ j o. A.others j (λ k l z. omega arith) in
      let word : (q i : ℕ) → i < 3 → get_or v (h + 4 * q + i) 0 ≡ get_or w (h + 4 * q + i) 0 =
      λ q i o. B.others (h + 4 * q + i) (λ k l z. omega arith) ∙ high (h + 4 * q + i) (omega arith) in
      record {
        heads = λ s o.
            subst (λ (x : ℕ). R (get_or w s 0) x) (sym (head s o))
            (subst (λ (k : ℕ). R (get_or w k 0) (get_or u k 0)) (one s) (A.links s o));
        nexts = λ q o.
            subst (λ (x : ℕ). R x (next_at v h q)) (high (h + 4 * q + 3) (omega arith))
            (subst (λ (k : ℕ). R (get_or u k 0) (get_or v k 0)) (next q) (B.links q o));
        entries = λ q.
            let z : h + 4 * q ≡ h + 4 * q + 0 = omega arith in
            entry_eq (entry_in v h q) (entry_in w h q)
            (subst (λ (k : ℕ). get_or v k 0 ≡ get_or w k 0) (sym z) (word q 0 (omega arith))) (word q 1 (omega arith)) (word q 2 (omega arith));
        rest = λ j o. B.others j (λ k l z. omega arith) ∙ high j (omega arith);
      }

-- and by what is known of each
pub front_known : (R S : ℕ → ℕ → Type 0) → ((y r : ℕ) → R y r → S y r) → (h p : ℕ) (w v : List ℕ) → FrontRelabelled R h p w v → FrontRelabelled S h p w v
front_known R S f h p w v A =
    record { heads = λ s o. f _ _ (A.heads s o); nexts = λ q o. f _ _ (A.nexts q o); entries = A.entries; rest = A.rest }

-- ---- the front of a list, and what stands behind it

next-behind : (h p q : ℕ) (w : List ℕ) → p ≤ q → next_behind (drop (h + 4 * p) w) p q ≡ next_at w h q
next-behind h p q w o =
    let z : h + 4 * p + (0 + 4 * (q - p) + 3) ≡ h + 4 * q + 3 = omega arith in
    get_or-drop (h + 4 * p) w (0 + 4 * (q - p) + 3) 0 ∙ ap (λ (k : ℕ). get_or w k 0) z

pub upward_behind : (h p t : ℕ) (w : List ℕ) → Upward (next_at w h) p t → Upward (next_behind (drop (h + 4 * p) w) p) p t
upward_behind h p t w U = record { up = λ q a b. rw (next-behind h p q w a) (U.up q a b) }

pub lowers_behind : (h p t y r : ℕ) (w : List ℕ) → Lowers (next_behind (drop (h + 4 * p) w) p) p t y r → Lowers (next_at w h) p t y r
lowers_behind h p t y r w = lowers_same (next_at w h) (next_behind (drop (h + 4 * p) w) p) p t y r (λ q a b. next-behind h p q w a)

-- where the front is relabelled, the whole is
pub front_whole : (R : ℕ → ℕ → Type 0) (h p : ℕ) (w u : List ℕ) → h + 4 * p ≤ length w → length u ≡ h + 4 * p
    → FrontRelabelled R h p (take (h + 4 * p) w) u → FrontRelabelled R h p w (u ++ drop (h + 4 * p) w)
front_whole R h p w u long lu F =
    let k : ℕ = h + 4 * p in
    let v : List ℕ = u ++ drop k w in
    let low : (j : ℕ) → j < k → get_or v j 0 ≡ get_or u j 0 = λ j o. get_or-append u (drop k w) 0 j (omega arith) in
    let old : (j : ℕ) → j < k → get_or (take k w) j 0 ≡ get_or w j 0 = λ j o. get_or-take k w j 0 o in
    let high : (j : ℕ) → k ≤ j → get_or v j 0 ≡ get_or w j 0 =
    λ j o.
    let z : k + (j - k) ≡ j = omega arith in
    get_or-append_right u (drop k w) k j 0 lu o ∙ get_or-drop k w (j - k) 0 ∙ ap (λ (i : ℕ). get_or w i 0) z in
    record {
      heads = λ s o. subst (λ (x : ℕ). R x (get_or v s 0)) (old s (omega arith)) (subst (λ (x : ℕ). R (get_or (take k w) s 0) x) (sym (low s (omega arith))) (F.heads s o));
      nexts = λ q o.
          subst (λ (x : ℕ). R x (next_at v h q)) (old (h + 4 * q + 3) (omega arith))
          (subst (λ (x : ℕ). R (next_at (take k w) h q) x) (sym (low (h + 4 * q + 3) (omega arith))) (F.nexts q o));
      entries = λ q. elim (dec_lt q p) [
        | yes o ↦
            let e : entry_in u h q ≡ entry_in (take k w) h q = F.entries q in
            entry_eq (entry_in v h q) (entry_in w h q)
            (low (h + 4 * q) (omega arith) ∙ ap (λ (x : Entry). x.address) e ∙ old (h + 4 * q) (omega arith))
            (low (h + 4 * q + 1) (omega arith) ∙ ap (λ (x : Entry). x.ori) e ∙ old (h + 4 * q + 1) (omega arith))
            (low (h + 4 * q + 2) (omega arith) ∙ ap (λ (x : Entry). x.cur) e ∙ old (h + 4 * q + 2) (omega arith))
        | no o ↦
            entry_eq (entry_in v h q) (entry_in w h q) (high (h + 4 * q) (omega arith)) (high (h + 4 * q + 1) (omega arith)) (high (h + 4 * q + 2) (omega arith))
      ];
      rest = λ j o. high j o;
    }

-- ---- a place's four words put

pub put-made : (h j : ℕ) (x : Entry) (y : ℕ) (w : List ℕ) {w3 w4 : List ℕ} → h + 4 * j + 4 ≤ length w → w3 ≡ put_entry w (h + 4 * j) x → w4 ≡ set w3 (h + 4 * j + 3) y
    → Put h j x y w w4
put-made h j x y w {w3 = w3} {w4 = w4} l e3 e4 =
    let long : length w3 ≡ length w = ap length e3 ∙ simp length-set in
    let last : (k : ℕ) → k ≢ h + 4 * j + 3 → get_or w4 k 0 ≡ get_or w3 k 0 = λ k n. ap (λ (x : List ℕ). get_or x k 0) e4 ∙ get_or-set_other w3 (h + 4 * j + 3) k y 0 n in
    record {
      entry = entry_eq (entry_in w4 h j) (entry_in w3 h j)
          (last (h + 4 * j) (λ b. omega arith)) (last (h + 4 * j + 1) (λ b. omega arith)) (last (h + 4 * j + 2) (λ b. omega arith))
          ∙ ap (λ (z : List ℕ). entry_in z h j) e3 ∙ three_same w (h + 4 * j) x (omega arith);
      next = ap (λ (x : List ℕ). get_or x (h + 4 * j + 3) 0) e4 ∙ get_or-set_same w3 (h + 4 * j + 3) y 0 (omega (arith, long));
      below = λ q b. last q (λ z. omega arith) ∙ other_words w w3 (h + 4 * j) x e3 q (λ z. omega arith) (λ z. omega arith) (λ z. omega arith);
      rest = λ q b. last q (λ z. omega arith) ∙ other_words w w3 (h + 4 * j) x e3 q (λ z. omega arith) (λ z. omega arith) (λ z. omega arith);
    }

-- ---- places moved down one by one

pub moved_start : (h p k : ℕ) (w : List ℕ) → MovedDown h p k p w w
moved_start h p k w = record { entries = λ q o l. absurd (omega arith); nexts = λ q o l. absurd (omega arith); below = λ q o. refl; rest = λ q o. refl }

pub moved_turn : (h p k j : ℕ) (x : Entry) (y r : ℕ) (w u v : List ℕ) → p ≤ j → MovedDown h p k j w u → x ≡ entry_in u h (j + k) → y ≡ next_at u h (j + k) → Down k y r
    → Put h j x r u v → MovedDown h p k (j + 1) w v
moved_turn h p k j x y r w u v pj M ex ey D P =
    let old : entry_in u h (j + k) ≡ entry_in w h (j + k) =
    entry_eq (entry_in u h (j + k)) (entry_in w h (j + k)) (M.rest (h + 4 * (j + k)) (omega arith)) (M.rest (h + 4 * (j + k) + 1) (omega arith)) (M.rest (h + 4 * (j + k) + 2) (omega arith)) in
    let lower : (q : ℕ) → q < j → entry_in v h q ≡ entry_in u h q =
    λ q o. entry_eq (entry_in v h q) (entry_in u h q) (P.below (h + 4 * q) (omega arith)) (P.below (h + 4 * q + 1) (omega arith)) (P.below (h + 4 * q + 2) (omega arith)) in
    let yw : y ≡ next_at w h (j + k) = ey ∙ M.rest (h + 4 * (j + k) + 3) (omega arith) in
    record {
      entries = λ q o l. elim (ℕ_discrete q j) [
        | yes z ↦ subst (λ (i : ℕ). entry_in v h i ≡ entry_in w h (i + k)) (sym z) (P.entry ∙ ex ∙ old)
        | no z ↦ lower q (omega arith) ∙ M.entries q o (omega arith)
      ];
      nexts = λ q o l. elim (ℕ_discrete q j) [
        | yes z ↦ subst (λ (i : ℕ). Down k (next_at w h (i + k)) (next_at v h i)) (sym z)
            (subst (λ (i : ℕ). Down k i (next_at v h j)) yw (subst (λ (i : ℕ). Down k y i) (sym P.next) D))
        | no z ↦ subst (λ (i : ℕ). Down k (next_at w h (q + k)) i) (sym (P.below (h + 4 * q + 3) (omega arith))) (M.nexts q o (omega arith))
      ];
      below = λ q o. P.below q (omega arith) ∙ M.below q o;
      rest = λ q o. P.rest q o ∙ M.rest q (omega arith);
    }

-- ---- a list that passes number 3 is chained

module _ (w : List ℕ) (g : Geometry) (next n : ℕ) (hpos : 0 < g.h) (dpos : 0 < g.d) (small : g.e ≤ 4096) (v : valid w g next n ≡ true) where
  abbrev F : ℕ → ℕ
  F q = address_at w g.h q % g.h

  fits : n ≤ g.e
  fits = listed_room w g next n hpos dpos small v

  pub entries_are : entries w g ≡ placed n w g.h 0
  entries_are =
      stands_table w g.h 0 (entries w g) (entries_taken w g).0
      ∙ ap (λ (k : ℕ). table k 0 (entry_in w g.h)) (entries-count w g next n hpos dpos small v)

  pub words_are : w ≡ encode g (placed n w g.h 0)
  words_are = list-is w g next n hpos dpos small v ∙ ap (encode g) entries_are

  pub chained : Chained F g.h n 0 0 w
  chained = subst (λ (u : List ℕ). Chained F g.h n 0 0 u) (sym words_are) (one-chained g hpos small (entry_in w g.h) n fits)

  pub upward : (q : ℕ) → q < n → q < next_at w g.h q
  upward q o =
      let r : n ≤ g.e = fits in
      ⊎_elim (λ z. omega arith) (λ z. omega (arith, z.0)) (chained.nexts q o (λ x. x)).here

  -- the places from p on, below t, taken out: heads lowered, Next words below lowered, the places behind moved down, and none behind
  module _ (p t : ℕ) (pt : p ≤ t) (tn : t ≤ n) (w2 w3 w4 : List ℕ) (l4 : length w4 ≡ g.h + 4 * g.e)
      (N : FrontRelabelled (Lowers (next_at w g.h) p t) g.h p w w2) (M : MovedDown g.h p (t - p) (n - (t - p)) w2 w3) (B : Blanked (g.h + 4 * (n - (t - p))) (g.h + 4 * n) w3 w4) where
    abbrev T : ℕ → Entry
    T q = entry_in w g.h (skip p t q)

    four_three : (q : ℕ) → q < n - (t - p) → entry_in w4 g.h q ≡ entry_in w3 g.h q
    four_three q o = entry_eq (entry_in w4 g.h q) (entry_in w3 g.h q) (B.below (g.h + 4 * q) (omega arith)) (B.below (g.h + 4 * q + 1) (omega arith)) (B.below (g.h + 4 * q + 2) (omega arith))

    three_two : (q : ℕ) → q < p → entry_in w3 g.h q ≡ entry_in w2 g.h q
    three_two q o = entry_eq (entry_in w3 g.h q) (entry_in w2 g.h q) (M.below (g.h + 4 * q) (omega arith)) (M.below (g.h + 4 * q + 1) (omega arith)) (M.below (g.h + 4 * q + 2) (omega arith))

    entry-is : (q : ℕ) → q < n - (t - p) → entry_in w4 g.h q ≡ T q
    entry-is q o = four_three q o ∙ elim (dec_lt q p) [
      | yes l ↦ three_two q l ∙ N.entries q ∙ ap (entry_in w g.h) (sym (skip-low p t q l))
      | no l ↦ M.entries q (omega arith) o ∙ N.entries (q + (t - p)) ∙ ap (entry_in w g.h) (sym (skip_high p t q (omega arith)))
    ]

    links_in : (q : ℕ) → p ≤ q → q < t → Leads F (F q) (q + 1) n 0 0 (next_at w g.h q)
    links_in q o l = chained.nexts q (omega arith) (λ x. x)

    chained_left : Chained (λ q. F (skip p t q)) g.h (n - (t - p)) 0 0 w4
    chained_left =
        let r : n ≤ g.e = fits in
        record {
          heads = λ s o.
              subst (λ (y : ℕ). Leads (λ q. F (skip p t q)) s 0 (n - (t - p)) 0 0 y)
              (sym (B.below s (omega arith) ∙ M.below s (omega arith)))
              ((N.heads s o).leads F s 0 n zero-le tn (omega arith) links_in (chained.heads s o));
          nexts = λ q o c. elim (dec_lt q p) [
            | yes l ↦
                subst (λ (y : ℕ). Leads (λ j. F (skip p t j)) (F (skip p t q)) (q + 1) (n - (t - p)) 0 0 y)
                (sym (B.below (g.h + 4 * q + 3) (omega arith) ∙ M.below (g.h + 4 * q + 3) (omega arith)))
                ((N.nexts q l).leads F (F (skip p t q)) (q + 1) n (omega arith) tn (omega arith) links_in
                (subst (λ (k : ℕ). Leads F (F k) (q + 1) n 0 0 (next_at w g.h q)) (sym (skip-low p t q l)) (chained.nexts q (omega arith) (λ x. x))))
            | no l ↦
                let pq : p ≤ q = omega arith in
                let z : q + (t - p) + 1 - (t - p) ≡ q + 1 = omega arith in
                subst (λ (y : ℕ). Leads (λ j. F (skip p t j)) (F (skip p t q)) (q + 1) (n - (t - p)) 0 0 y)
                (sym (B.below (g.h + 4 * q + 3) (omega arith)))
                (subst (λ (k : ℕ). Leads (λ j. F (skip p t j)) (F (skip p t q)) k (n - (t - p)) 0 0 (next_at w3 g.h q)) z
                (leads_down F (F (skip p t q)) (q + (t - p) + 1) n p t (next_at w2 g.h (q + (t - p))) (next_at w3 g.h q) pt (omega arith) tn (omega arith)
                (M.nexts q pq o)
                (subst (λ (y : ℕ). Leads F (F (skip p t q)) (q + (t - p) + 1) n 0 0 y) (sym (N.rest (g.h + 4 * (q + (t - p)) + 3) (omega arith)))
                (subst (λ (k : ℕ). Leads F (F k) (q + (t - p) + 1) n 0 0 (next_at w g.h (q + (t - p)))) (sym (skip_high p t q pq))
                (chained.nexts (q + (t - p)) (omega arith) (λ x. x))))))
          ];
        }

    behind : (i : ℕ) → g.h + 4 * (n - (t - p)) ≤ i → i < g.h + 4 * g.e → get_or w4 i 0 ≡ none_word
    behind i o l = elim (dec_lt i (g.h + 4 * n)) [
      | yes k ↦ B.inside i o k
      | no k ↦ B.above i (omega arith) ∙ M.rest i o ∙ N.rest i (omega arith) ∙ unused w g next n hpos dpos small v i (omega arith) l
    ]

    pub taken_out : w4 ≡ encode g (without g.h p t n w)
    taken_out = told g hpos small T (n - (t - p)) (let r : n ≤ g.e = fits in omega arith) w4 l4 entry-is chained_left behind

  -- ---- the entries of stripe x taken out: those from its first address on, below the next stripe's

  module _ (x p t : ℕ) (P : FirstFrom w g.h n (x * g.d) p) (Q : FirstFrom w g.h n (x * g.d + g.d) t) where
    abbrev A : ℕ → ℕ
    A q = address_at w g.h q

    pub first_order : p ≤ t
    first_order = elim (dec_lt t p) [
      | yes o ↦ let a = P.lower t o in let b : p ≤ n = P.within in let c = Q.higher t (omega arith) (omega arith) in absurd (omega arith)
      | no o ↦ omega arith
    ]

    of_lower : (q : ℕ) → q < p → A q / g.d ≢ x
    of_lower q o e = let a : A q / g.d < x = (div-lt_iff_lt-mul dpos).1 (P.lower q o) in omega arith

    of_here : (q : ℕ) → p ≤ q → q < t → A q / g.d ≡ x
    of_here q o l =
        let u : t ≤ n = Q.within in
        let a = P.higher q o (omega arith) in
        let b = Q.lower q l in
        let z : x * g.d + (A q - x * g.d) ≡ A q = omega arith in
        ap (λ (k : ℕ). k / g.d) (sym z) ∙ stripe_of_lem x g.d (A q - x * g.d) (omega arith)

    of_higher : (q : ℕ) → t ≤ q → q < n → A q / g.d ≢ x
    of_higher q o l e =
        let a = Q.higher q o l in
        let s : A q / g.d < suc x = omega arith in
        let b : A q < suc x * g.d = (div-lt_iff_lt-mul dpos).0 s in
        let c : suc x * g.d ≡ x * g.d + g.d = suc-mul x g.d in
        omega arith

    pub stripe_out : without g.h p t n w ≡ drop_stripe g.d x (entries w g)
    stripe_out =
        let pt : p ≤ t = first_order in
        let tn : t ≤ n = Q.within in
        let f : ℕ → Entry = entry_in w g.h in
        let s : ℕ → Entry = λ q. entry_in w g.h (skip p t q) in
        let b : ℕ → Bool = λ y. eqb y x in
        let z1 : n ≡ p + ((t - p) + (n - t)) = omega arith in
        let z2 : 0 + p ≡ p = omega arith in
        let z3 : p + (t - p) ≡ t = omega arith in
        let z4 : n - (t - p) ≡ p + (n - t) = omega arith in
        let split : entries w g ≡ table p 0 f ++ (table (t - p) p f ++ table (n - t) t f) =
        entries_are ∙ ap (λ (j : ℕ). table j 0 f) z1 ∙ table-append p ((t - p) + (n - t)) 0 f ∙ ap (λ (j : ℕ). table p 0 f ++ table ((t - p) + (n - t)) j f) z2
        ∙ ap (λ (es : List Entry). table p 0 f ++ es) (table-append (t - p) (n - t) p f ∙ ap (λ (j : ℕ). table (t - p) p f ++ table (n - t) j f) z3) in
        let left : drop_stripe g.d x (entries w g) ≡ table p 0 f ++ table (n - t) t f =
        ap (drop_stripe g.d x) split
        ∙ drop_more g.d b f p 0 (table (t - p) p f ++ table (n - t) t f) (λ q o l. ne_eqb (A q / g.d) x (of_lower q (omega arith)))
        ∙ ap (λ (es : List Entry). table p 0 f ++ es)
        (drop_away g.d b f (t - p) p (table (n - t) t f) (λ q o l. eq-eqb (A q / g.d) x (of_here q o (omega arith)))
        ∙ drop-table g.d b f (n - t) t (λ q o l. ne_eqb (A q / g.d) x (of_higher q o (omega arith)))) in
        ap (λ (j : ℕ). table j 0 s) z4 ∙ table-append p (n - t) 0 s
        ∙ ap₂ (λ (es fs : List Entry). es ++ fs) (table_ext p 0 s f (λ q o l. ap f (skip-low p t q (omega arith))))
        (ap (λ (j : ℕ). table (n - t) j s) z2 ∙ table_shift (n - t) p t s f (λ q o. ap f (skip_high p t (p + q) (omega arith) ∙ (let e : p + q + (t - p) ≡ t + q = omega arith in e))))
        ∙ sym left

    pub count_out : n - (t - p) ≡ length (drop_stripe g.d x (entries w g))
    count_out = sym (length-table (n - (t - p)) 0 (λ q. entry_in w g.h (skip p t q))) ∙ ap length stripe_out

    -- the bytes l of the list without them
    pub out_rewritten : (l : List ℕ) → words l ≡ encode g (without g.h p t n w) → length l ≡ 4 * (g.h + 4 * g.e) → ((i : ℕ) → get_or l i 0 < 256)
        → Rewritten g (drop_stripe g.d x (entries w g)) l (n - (t - p))
    out_rewritten l e long low =
        let is : words l ≡ encode g (drop_stripe g.d x (entries w g)) = e ∙ ap (encode g) stripe_out in
        (sym (bytes-words l (g.h + 4 * g.e) long low) ∙ ap bytes_of is, (is, count_out))

    -- where there are none
    pub none_out : t ≤ p → w ≡ encode g (without g.h p t n w)
    none_out tp =
        let z : n ≡ n - (t - p) = omega arith in
        let same : (q : ℕ) → skip p t q ≡ q = λ q. elim (dec_lt q p) [
          | yes o ↦ skip-low p t q o
          | no o ↦ skip_high p t q (omega arith) ∙ (let e : q + (t - p) ≡ q = omega arith in e)
        ] in
        words_are ∙ ap (encode g) (ap (λ (j : ℕ). table j 0 (entry_in w g.h)) z
        ∙ table_ext (n - (t - p)) 0 (entry_in w g.h) (λ q. entry_in w g.h (skip p t q)) (λ q a b. ap (entry_in w g.h) (sym (same q))))

-- ---- places put in: heads and Next words raised one by one, places moved up

pub up_start : (h p m c : ℕ) (w : List ℕ) → MovedUp h p m c m w w
up_start h p m c w = record { entries = λ q o l. absurd (omega arith); nexts = λ q o l. absurd (omega arith); below = λ q o. refl; rest = λ q o. refl }

pub up_turn : (h p m c j : ℕ) (x : Entry) (y r : ℕ) (w u v : List ℕ) → 0 < j → j ≤ m → MovedUp h p m c j w u → x ≡ entry_in u h (j - 1) → y ≡ next_at u h (j - 1) → Up p m c y r
    → Put h (j - 1 + c) x r u v → MovedUp h p m c (j - 1) w v
up_turn h p m c j x y r w u v j0 jm M ex ey D P =
    let old : entry_in u h (j - 1) ≡ entry_in w h (j - 1) =
    entry_eq (entry_in u h (j - 1)) (entry_in w h (j - 1)) (M.below (h + 4 * (j - 1)) (omega arith)) (M.below (h + 4 * (j - 1) + 1) (omega arith)) (M.below (h + 4 * (j - 1) + 2) (omega arith)) in
    let upper : (q : ℕ) → j ≤ q → entry_in v h (q + c) ≡ entry_in u h (q + c) =
    λ q o. entry_eq (entry_in v h (q + c)) (entry_in u h (q + c)) (P.rest (h + 4 * (q + c)) (omega arith)) (P.rest (h + 4 * (q + c) + 1) (omega arith)) (P.rest (h + 4 * (q + c) + 2) (omega arith)) in
    let yw : y ≡ next_at w h (j - 1) = ey ∙ M.below (h + 4 * (j - 1) + 3) (omega arith) in
    record {
      entries = λ q o l. elim (ℕ_discrete q (j - 1)) [
        | yes z ↦ subst (λ (i : ℕ). entry_in v h (i + c) ≡ entry_in w h i) (sym z) (P.entry ∙ ex ∙ old)
        | no z ↦ upper q (omega arith) ∙ M.entries q (omega arith) l
      ];
      nexts = λ q o l. elim (ℕ_discrete q (j - 1)) [
        | yes z ↦ subst (λ (i : ℕ). Up p m c (next_at w h i) (next_at v h (i + c))) (sym z)
            (subst (λ (i : ℕ). Up p m c i (next_at v h (j - 1 + c))) yw (subst (λ (i : ℕ). Up p m c y i) (sym P.next) D))
        | no z ↦ subst (λ (i : ℕ). Up p m c (next_at w h q) i) (sym (P.rest (h + 4 * (q + c) + 3) (omega arith))) (M.nexts q (omega arith) l)
      ];
      below = λ q o. P.below q o ∙ M.below q (omega arith);
      rest = λ q o. P.rest q (omega arith) ∙ M.rest q o;
    }

pub gap_made : (h p m c : ℕ) (w u v : List ℕ) → p ≤ m → FrontRelabelled (Up p m c) h p w u → MovedUp h p m c p u v → GapMade h p m c w v
gap_made h p m c w u v pm F M =
    let low : (q : ℕ) → q < p → entry_in v h q ≡ entry_in u h q =
    λ q o. entry_eq (entry_in v h q) (entry_in u h q) (M.below (h + 4 * q) (omega arith)) (M.below (h + 4 * q + 1) (omega arith)) (M.below (h + 4 * q + 2) (omega arith)) in
    record {
      heads = λ s o. subst (λ (k : ℕ). Up p m c (get_or w s 0) k) (sym (M.below s (omega arith))) (F.heads s o);
      lower = λ q o. (
        low q o ∙ F.entries q,
        subst (λ (k : ℕ). Up p m c (next_at w h q) k) (sym (M.below (h + 4 * q + 3) (omega arith))) (F.nexts q o),
      );
      higher = λ q o l. (
        M.entries q o l ∙ F.entries q,
        subst (λ (k : ℕ). Up p m c k (next_at v h (q + c))) (F.rest (h + 4 * q + 3) (omega arith)) (M.nexts q o l),
      );
      rest = λ q o. M.rest q o ∙ F.rest q (omega arith);
    }

-- ---- a place linked into its slot's chain

-- the place t counts too, where it is of another slot, or not before y
lead_more : (f : ℕ → ℕ) (s a n p t y : ℕ) → (a ≤ t → t < y → f t ≢ s) → Leads f s a n p (t + 1) y → Leads f s a n p t y
lead_more f s a n p t y ne L =
    record {
      before = λ q i j k x. elim (ℕ_discrete q t) [
        | yes z ↦ λ e. ne (omega arith) (omega arith) (ap f (sym z) ∙ e)
        | no z ↦ L.before q i j k (λ o. let b = x o in omega arith)
      ];
      here = ⊎_elim (λ z. inl z) (λ z. inr (z.0, (z.1.0, (z.1.1.0, λ o. let b = z.1.1.1 o in omega arith)))) L.here;
    }

-- the last place below p of slot s is a - 1, or a is 0 and there is none; word i has the link behind it
module _ (f : ℕ → ℕ) (h n p t s a i : ℕ) (w w1 v : List ℕ) (small : n ≤ 4096) (pt : p ≤ t) (tn : t < n) (sh : s < h) (ap' : a ≤ p) (ft : f t ≡ s)
    (free : (q : ℕ) → a ≤ q → q < p → f q ≢ s) (last : 0 < a → f (a - 1) ≡ s) (head : a ≡ 0 → i ≡ s) (tail : 0 < a → i ≡ h + 4 * (a - 1) + 3)
    (long : h + 4 * t + 3 < length w) (e1 : w1 ≡ set w (h + 4 * t + 3) (get_or w i 0)) (e2 : v ≡ set w1 i t) (C : Chained f h n p (t + 1) w) where
  apart : i < h + 4 * t + 3
  apart = elim (dec_lt 0 a) [ yes o ↦ (let z = tail o in omega arith) | no o ↦ (let z = head (omega arith) in omega arith) ]

  l1 : length w1 ≡ length w
  l1 = ap length e1 ∙ length-set w (h + 4 * t + 3) (get_or w i 0)

  kept : (k : ℕ) → k ≢ i → k ≢ h + 4 * t + 3 → get_or v k 0 ≡ get_or w k 0
  kept k a1 a2 = ap (λ (x : List ℕ). get_or x k 0) e2 ∙ get_or-set_other w1 i k t 0 a1 ∙ ap (λ (x : List ℕ). get_or x k 0) e1 ∙ get_or-set_other w (h + 4 * t + 3) k (get_or w i 0) 0 a2

  at_i : get_or v i 0 ≡ t
  at_i = let l : length w1 ≡ length w = l1 in let o = apart in ap (λ (x : List ℕ). get_or x i 0) e2 ∙ get_or-set_same w1 i t 0 (omega arith)

  at_t : next_at v h t ≡ get_or w i 0
  at_t =
      let o = apart in
      ap (λ (x : List ℕ). next_at x h t) e2 ∙ get_or-set_other w1 i (h + 4 * t + 3) t 0 (λ z. omega arith)
      ∙ ap (λ (x : List ℕ). next_at x h t) e1 ∙ get_or-set_same w (h + 4 * t + 3) (get_or w i 0) 0 long

  -- the link that led past the gap, and leads to place t now
  past : Leads f s a n p (t + 1) (get_or w i 0)
  past = elim (dec_lt 0 a) [
    | yes o ↦
        let z : a - 1 + 1 ≡ a = omega arith in
        subst (λ (k : ℕ). Leads f s a n p (t + 1) (get_or w k 0)) (sym (tail o))
        (subst (λ (k : ℕ). Leads f s k n p (t + 1) (next_at w h (a - 1))) z
        (subst (λ (k : ℕ). Leads f k (a - 1 + 1) n p (t + 1) (next_at w h (a - 1))) (last o) (C.nexts (a - 1) (omega arith) (λ b. absurd (omega arith)))))
    | no o ↦
        let z : a ≡ 0 = omega arith in
        subst (λ (k : ℕ). Leads f s a n p (t + 1) (get_or w k 0)) (sym (head z))
        (subst (λ (k : ℕ). Leads f s k n p (t + 1) (get_or w s 0)) (sym z) (C.heads s sh))
  ]

  to_t : Leads f s a n p t t
  to_t = record { before = λ q b c d x. free q b (elim (dec_lt q p) [ yes o ↦ o | no o ↦ absurd (let u = x (omega arith) in omega arith) ]); here = inr (omega arith, (tn, (ft, λ o. omega arith))) }

  -- another link of the slot ends below the gap
  sooner : (b y : ℕ) → b < a → Leads f s b n p (t + 1) y → y < p
  sooner b y o L = elim (dec_lt (a - 1) y) [
    | yes k ↦ absurd (L.before (a - 1) (omega arith) (omega arith) k (λ z. absurd (omega arith)) (last (omega arith)))
    | no k ↦ omega arith
  ]

  from_t : Leads f (f t) (t + 1) n p t (get_or w i 0)
  from_t =
      subst (λ (k : ℕ). Leads f k (t + 1) n p t (get_or w i 0)) (sym ft)
      (record {
        before = λ q b c d x. past.before q (omega arith) c d (λ o. omega arith);
        here = ⊎_elim (λ z. inl z) (λ z.
            let y : ℕ = get_or w i 0 in
            let py : p ≤ get_or w i 0 = elim (dec_lt (get_or w i 0) p) [ yes o ↦ absurd (free (get_or w i 0) z.0 o z.1.1.0) | no o ↦ omega arith ] in
            let ty : t + 1 ≤ get_or w i 0 = z.1.1.1 py in
            inr (ty, (z.1.0, (z.1.1.0, λ o. omega arith)))) past.here;
      })

  pub linked_one : Chained f h n p t v
  linked_one =
      let ai : i < h + 4 * t + 3 = apart in
      record {
        heads = λ k o. elim (ℕ_discrete k i) [
          | yes z ↦
              let a0 : a ≡ 0 = elim (dec_lt 0 a) [ yes b ↦ absurd (let u = tail b in omega arith) | no b ↦ (let u : a ≡ 0 = omega arith in u) ] in
              let ks : s ≡ k = sym (z ∙ head a0) in
              subst (λ (y : ℕ). Leads f k 0 n p t y) (sym (ap (λ (j : ℕ). get_or v j 0) z ∙ at_i))
              (subst (λ (j : ℕ). Leads f k j n p t t) a0 (subst (λ (j : ℕ). Leads f j a n p t t) ks to_t))
          | no z ↦
              subst (λ (y : ℕ). Leads f k 0 n p t y) (sym (kept k z (λ b. omega arith)))
              (lead_more f k 0 n p t (get_or w k 0) (λ b c e.
              let ks : k ≡ s = sym e ∙ ft in
              let a1 : 0 < a = elim (dec_lt 0 a) [ yes b ↦ b | no b ↦ absurd (z (ks ∙ sym (head (omega arith)))) ] in
              let y = sooner 0 (get_or w k 0) a1 (subst (λ (j : ℕ). Leads f j 0 n p (t + 1) (get_or w k 0)) ks (C.heads k o)) in omega arith) (C.heads k o))
        ];
        nexts = λ q o c. elim (ℕ_discrete q t) [
          | yes z ↦
              subst (λ (j : ℕ). Leads f (f j) (j + 1) n p t (next_at v h j)) (sym z) (subst (λ (y : ℕ). Leads f (f t) (t + 1) n p t y) (sym at_t) from_t)
          | no z ↦
              let live : p ≤ q → t + 1 ≤ q = λ b. let d = c b in omega arith in
              elim (ℕ_discrete (h + 4 * q + 3) i) [
                | yes k ↦
                    let a1 : 0 < a = elim (dec_lt 0 a) [ yes b ↦ b | no b ↦ absurd (let u = head (omega arith) in omega arith) ] in
                    let u : i ≡ h + 4 * (a - 1) + 3 = tail a1 in
                    let qa : q ≡ a - 1 = omega arith in
                    let za : a ≡ q + 1 = omega arith in
                    let fs : s ≡ f q = sym (ap f qa ∙ last a1) in
                    subst (λ (y : ℕ). Leads f (f q) (q + 1) n p t y) (sym (ap (λ (j : ℕ). get_or v j 0) k ∙ at_i))
                    (subst (λ (j : ℕ). Leads f (f q) j n p t t) za (subst (λ (j : ℕ). Leads f j a n p t t) fs to_t))
                | no k ↦
                    subst (λ (y : ℕ). Leads f (f q) (q + 1) n p t y) (sym (kept (h + 4 * q + 3) k (λ b. z (omega arith))))
                    (lead_more f (f q) (q + 1) n p t (next_at w h q) (λ b d e.
                    let fs : f q ≡ s = sym e ∙ ft in
                    let qp : q < p = elim (dec_lt q p) [ yes x ↦ x | no x ↦ absurd (let y = live (omega arith) in omega arith) ] in
                    let qa : q < a = elim (dec_lt q a) [ yes x ↦ x | no x ↦ absurd (free q (omega arith) qp fs) ] in
                    let u : i ≡ h + 4 * (a - 1) + 3 = tail (omega arith) in
                    let ne : q ≢ a - 1 = λ x. k (ap (λ (j : ℕ). h + 4 * j + 3) x ∙ sym u) in
                    let y = sooner (q + 1) (next_at w h q) (omega arith) (subst (λ (j : ℕ). Leads f j (q + 1) n p (t + 1) (next_at w h q)) fs (C.nexts q o live)) in omega arith)
                    (C.nexts q o live))
              ]
        ];
      }

-- ---- the last place below the gap of a slot, by the places or by the chain

pub last_scanned : (h p s : ℕ) (w : List ℕ) (r : ℕ) → r ≤ p → (0 < r → address_at w h (r - 1) % h ≡ s) → ((q : ℕ) → r ≤ q → q < p → address_at w h q % h ≢ s) → LastBelow h p s w r
last_scanned h p s w r o l n = record { within = o; last = λ f k t a b c fs C. (λ z. fs (r - 1) ∙ l z, λ q i j e. n q i j (sym (fs q) ∙ e)) }

-- the link y goes on behind place r - 1 of the slot
abbrev pub Walked : List ℕ → ℕ → ℕ → ℕ → ℕ → ℕ → Type 0
Walked w h p s r y =
    (f : ℕ → ℕ) (n t : ℕ) → n ≤ 4096 → p ≤ t → t ≤ n → ((q : ℕ) → f q ≡ address_at w h q % h) → Chained f h n p t w → (0 < r → f (r - 1) ≡ s) × Leads f s r n p t y

pub walked_start : (w : List ℕ) (h p s y : ℕ) → s < h → y ≡ get_or w s 0 → Walked w h p s 0 y
walked_start w h p s y o e f n t a b c fs C = (λ z. absurd (omega arith), subst (λ (k : ℕ). Leads f s 0 n p t k) (sym e) (C.heads s o))

pub walked_turn : (w : List ℕ) (h p s r y z : ℕ) → y < p → z ≡ next_at w h y → Walked w h p s r y → Walked w h p s (y + 1) z
walked_turn w h p s r y z o e W f n t a b c fs C =
    let old = W f n t a b c fs C in
    let at : f y ≡ s = ⊎_elim (λ u. absurd (omega arith)) (λ u. u.1.1.0) old.1.here in
    let one : y + 1 - 1 ≡ y = omega arith in (
      λ u. ap f one ∙ at,
      subst (λ (k : ℕ). Leads f s (y + 1) n p t k) (sym e) (subst (λ (k : ℕ). Leads f k (y + 1) n p t (next_at w h y)) at (C.nexts y (omega arith) (λ u. absurd (omega arith)))),
    )

pub walked_end : (w : List ℕ) (h p s r y : ℕ) → r ≤ p → p ≤ y → Walked w h p s r y → LastBelow h p s w r
walked_end w h p s r y o l W =
    record {
      within = o;
      last = λ f n t a b c fs C.
          let old = W f n t a b c fs C in
          (old.0, λ q i j. old.1.before q i (omega arith) (omega arith) (λ u. absurd (omega arith)));
    }

pub walked_stop : (w : List ℕ) (h p s r y : ℕ) → r ≤ p → y < p → y < r → Walked w h p s r y → LastBelow h p s w r
walked_stop w h p s r y o k l W =
    record {
      within = o;
      last = λ f n t a b c fs C.
          let old = W f n t a b c fs C in
          absurd (⊎_elim (λ u. omega arith) (λ u. omega (arith, u.0)) old.1.here);
    }

pub linked_in : (h p t a i s : ℕ) (w w1 v : List ℕ) → p ≤ t → s < h → s ≡ address_at w h t % h → LastBelow h p s w a → (a ≡ 0 → i ≡ s) → (0 < a → i ≡ h + 4 * (a - 1) + 3)
    → h + 4 * t + 3 < length w → w1 ≡ set w (h + 4 * t + 3) (get_or w i 0) → v ≡ set w1 i t → LinkedIn h p t (t + 1) w v
linked_in h p t a i s w w1 v pt sh es L head tail long e1 e2 =
    let within : a ≤ p = L.within in
    let low : i < h + 4 * t + 3 = elim (dec_lt 0 a) [ yes o ↦ (let z = tail o in omega arith) | no o ↦ (let z = head (omega arith) in omega arith) ] in
    let word : (k : ℕ) → k ≢ i → k ≢ h + 4 * t + 3 → get_or v k 0 ≡ get_or w k 0 =
    λ k a1 a2. ap (λ (x : List ℕ). get_or x k 0) e2 ∙ get_or-set_other w1 i k t 0 a1 ∙ ap (λ (x : List ℕ). get_or x k 0) e1 ∙ get_or-set_other w (h + 4 * t + 3) k (get_or w i 0) 0 a2 in
    let far : (q j : ℕ) → j < 3 → h + 4 * q + j ≢ i =
    λ q j b z. elim (dec_lt 0 a) [ yes o ↦ (let y = tail o in omega arith) | no o ↦ (let y = head (omega arith) in omega arith) ] in
    let far0 : (q : ℕ) → h + 4 * q ≢ i = λ q z. far q 0 (omega arith) (let y : h + 4 * q + 0 ≡ h + 4 * q = omega arith in y ∙ z) in
    record {
      chains = λ f n small tn fs C.
          linked_one f h n p t s a i w w1 v small pt (omega arith) sh within (fs t ∙ sym es) (L.last f n (t + 1) small (omega arith) tn fs C).1
          (L.last f n (t + 1) small (omega arith) tn fs C).0 head tail long e1 e2 C;
      entries = λ q. entry_eq (entry_in v h q) (entry_in w h q) (word (h + 4 * q) (far0 q) (λ z. omega arith))
          (word (h + 4 * q + 1) (far q 1 (omega arith)) (λ z. omega arith)) (word (h + 4 * q + 2) (far q 2 (omega arith)) (λ z. omega arith));
      rest = λ k o. word k (λ z. omega arith) (λ z. omega arith);
    }

pub linked_start : (h p t : ℕ) (w : List ℕ) → LinkedIn h p t t w w
linked_start h p t w = record { chains = λ f n a b c C. C; entries = λ q. refl; rest = λ k o. refl }

pub linked_turn : (h p t top : ℕ) (w u v : List ℕ) → 0 < t → t ≤ top → LinkedIn h p t top w u → LinkedIn h p (t - 1) (t - 1 + 1) u v → LinkedIn h p (t - 1) top w v
linked_turn h p t top w u v t0 tt' A E =
    let z : t ≡ t - 1 + 1 = omega arith in
    record {
      chains = λ f n small tn fs C.
          E.chains f n small (omega arith) (λ q. fs q ∙ ap (λ (x : Entry). x.address % h) (sym (A.entries q)))
          (subst (λ (k : ℕ). Chained f h n p k u) z (A.chains f n small tn fs C));
      entries = λ q. E.entries q ∙ A.entries q;
      rest = λ k o. E.rest k (omega arith) ∙ A.rest k o;
    }

-- ---- the links of a list with a gap

lead_up : (f t : ℕ → ℕ) (s a b m p c y r : ℕ) → p ≤ m → m ≤ 4096 → ((q : ℕ) → q < p → t q ≡ f q) → ((q : ℕ) → p ≤ q → q < m → t q ≡ f (q + c))
    → ((q : ℕ) → q < p → b ≤ q → a ≤ q) → ((q : ℕ) → p ≤ q → b ≤ q + c → a ≤ q) → ((q : ℕ) → q < p → a ≤ q → b ≤ q) → ((q : ℕ) → p ≤ q → a ≤ q → b ≤ q + c)
    → Up p m c y r → Leads t s a m 0 0 y → Leads f s b (m + c) p (p + c) r
lead_up f t s a b m p c y r pm small lo hi b1 b2 b3 b4 U L =
    let over : (q : ℕ) → q < p → q < r → q < y = λ q o k. elim (dec_lt y p) [
      | yes z ↦ let e = U.low z in omega arith
      | no z ↦ omega arith
    ] in
    let above : (q : ℕ) → p ≤ q → q < m → q + c < r → q < y = λ q o l k. elim (dec_lt y m) [
      | yes z ↦ elim (dec_lt y p) [ yes x ↦ (let e = U.low x in omega arith) | no x ↦ (let e = U.some (omega arith) z in omega arith) ]
      | no z ↦ omega arith
    ] in
    record {
      before = λ q i j k x e. elim (dec_lt q p) [
        | yes o ↦ L.before q (b1 q o i) (omega arith) (over q o k) (λ z. z) (lo q o ∙ e)
        | no o ↦
            let far : p + c ≤ q = x (omega arith) in
            let is : q - c + c ≡ q = omega arith in
            L.before (q - c) (b2 (q - c) (omega arith) (omega arith)) (omega arith) (above (q - c) (omega arith) (omega arith) (omega arith)) (λ z. z)
            (hi (q - c) (omega arith) (omega arith) ∙ ap f is ∙ e)
      ];
      here = ⊎_elim
          (λ z. inl (U.none (omega arith) ∙ z))
          (λ z.
          let ym : y < m = z.1.0 in
          elim (dec_lt y p) [
            | yes o ↦
                let e : r ≡ y = U.low o in
                inr (subst (λ (k : ℕ). b ≤ k) (sym e) (b3 y o z.0), (omega arith, (ap f e ∙ sym (lo y o) ∙ z.1.1.0, λ x. absurd (omega arith))))
            | no o ↦
                let e : r ≡ y + c = U.some (omega arith) ym in
                inr (subst (λ (k : ℕ). b ≤ k) (sym e) (b4 y (omega arith) z.0), (omega arith, (ap f e ∙ sym (hi y (omega arith) ym) ∙ z.1.1.0, λ x. omega arith)))
          ])
          L.here;
    }

stripe-from : (x d a : ℕ) → 0 < d → x * d ≤ a → x ≤ a / d
stripe-from x d a pos o = elim (dec_lt (a / d) x) [ yes l ↦ absurd (let z : a < x * d = (div-lt_iff_lt-mul pos).0 l in omega arith) | no l ↦ omega arith ]

module _ (w : List ℕ) (g : Geometry) (next m : ℕ) (hpos : 0 < g.h) (dpos : 0 < g.d) (small : g.e ≤ 4096) (v : valid w g next m ≡ true) (x p : ℕ) (y : List Entry)
    (clean : drop_stripe g.d x (entries w g) ≡ entries w g) (R : m + length y ≤ g.e) (P : FirstFrom w g.h m (x * g.d) p) (sg : Segment g.d x y)
    (w1 w2 w3 : List ℕ) (l3 : length w3 ≡ g.h + 4 * g.e) (G : GapMade g.h p m (length y) w w1) (L : Filled p (length y) (placed g.e w1 g.h 0) (placed g.e w2 g.h 0) y)
    (K : KeptFrom (g.h + 4 * (p + length y)) w1 w2) (N : LinksKept g.h w1 w2) (I : LinkedIn g.h p p (p + length y) w2 w3) where
  abbrev Now : ℕ → ℕ
  Now q = address_at w2 g.h q % g.h

  abbrev Was : ℕ → ℕ
  Was q = address_at w g.h q % g.h

  got : (z : List ℕ) (q : ℕ) → q < g.e → get_or (placed g.e z g.h 0) q no_entry ≡ entry_in z g.h q
  got z q l = table_get g.e 0 q (entry_in z g.h) l ∙ ap (λ (j : ℕ). entry_in z g.h j) (zero-add q)

  pm : p ≤ m
  pm = P.within

  two_low : (q : ℕ) → q < p → entry_in w2 g.h q ≡ entry_in w1 g.h q
  two_low q o =
      let b : p ≤ m = pm in
      let l1 : length (placed g.e w1 g.h 0) ≡ g.e = length-table g.e 0 (entry_in w1 g.h) in
      let lp : length (take p (placed g.e w1 g.h 0)) ≡ p = length-take-le p (placed g.e w1 g.h 0) (omega arith) in
      sym (got w2 q (omega arith)) ∙ sym (get_or-take (p + length y) (placed g.e w2 g.h 0) q no_entry (omega arith))
      ∙ ap (λ (z : List Entry). get_or z q no_entry) L.front ∙ get_or-append (take p (placed g.e w1 g.h 0)) (take (length y) y) no_entry q (omega arith)
      ∙ get_or-take p (placed g.e w1 g.h 0) q no_entry o ∙ got w1 q (omega arith)

  two_high : (q : ℕ) → p ≤ q → q < m → entry_in w2 g.h (q + length y) ≡ entry_in w g.h q
  two_high q o l =
      entry_eq (entry_in w2 g.h (q + length y)) (entry_in w1 g.h (q + length y)) (K (g.h + 4 * (q + length y)) (omega arith)) (K (g.h + 4 * (q + length y) + 1) (omega arith)) (K (g.h + 4 * (q + length y) + 2) (omega arith))
      ∙ (G.higher q o l).0

  slot_low : (q : ℕ) → q < p → Was q ≡ Now q
  slot_low q o = ap (λ (z : Entry). z.address % g.h) (sym (two_low q o ∙ (G.lower q o).0))

  slot_high : (q : ℕ) → p ≤ q → q < m → Was q ≡ Now (q + length y)
  slot_high q o l = ap (λ (z : Entry). z.address % g.h) (sym (two_high q o l))

  old : Chained Was g.h m 0 0 w
  old = chained w g next m hpos dpos small v

  chained_gap : Chained Now g.h (m + length y) p (p + length y) w2
  chained_gap =
      let b : p ≤ m = pm in
      record {
        heads = λ s o.
            subst (λ (k : ℕ). Leads Now s 0 (m + length y) p (p + length y) k) (sym (N.heads s o))
            (lead_up Now Was s 0 0 m p (length y) (get_or w s 0) (get_or w1 s 0) pm (omega arith) slot_low slot_high (λ q i j. j) (λ q i j. zero-le) (λ q i j. j) (λ q i j. zero-le) (G.heads s o) (old.heads s o));
        nexts = λ q o live. elim (dec_lt q p) [
          | yes l ↦
              subst (λ (k : ℕ). Leads Now (Now q) (q + 1) (m + length y) p (p + length y) k) (sym (N.nexts q))
              (lead_up Now Was (Now q) (q + 1) (q + 1) m p (length y) (next_at w g.h q) (next_at w1 g.h q) pm (omega arith) slot_low slot_high (λ j a z. z) (λ j a z. omega arith) (λ j a z. z) (λ j a z. omega arith)
              (G.lower q l).1 (subst (λ (k : ℕ). Leads Was k (q + 1) m 0 0 (next_at w g.h q)) (slot_low q l) (old.nexts q (omega arith) (λ z. z))))
          | no l ↦
              let far : p + length y ≤ q = live (omega arith) in
              let is : q - length y + length y ≡ q = omega arith in
              let qm : q - length y < m = omega arith in
              subst (λ (j : ℕ). Leads Now (Now j) (j + 1) (m + length y) p (p + length y) (next_at w2 g.h j)) is
              (subst (λ (k : ℕ). Leads Now (Now (q - length y + length y)) (q - length y + length y + 1) (m + length y) p (p + length y) k) (sym (N.nexts (q - length y + length y)))
              (lead_up Now Was (Now (q - length y + length y)) (q - length y + 1) (q - length y + length y + 1) m p (length y) (next_at w g.h (q - length y)) (next_at w1 g.h (q - length y + length y)) pm (omega arith) slot_low slot_high
              (λ j a z. omega arith) (λ j a z. omega arith) (λ j a z. omega arith) (λ j a z. omega arith)
              (G.higher (q - length y) (omega arith) qm).1
              (subst (λ (k : ℕ). Leads Was k (q - length y + 1) m 0 0 (next_at w g.h (q - length y))) (slot_high (q - length y) (omega arith) qm) (old.nexts (q - length y) qm (λ z. z)))))
        ];
      }

  full : (f : ℕ → ℕ) (s a k r : ℕ) → Leads f s a k p p r → Leads f s a k 0 0 r
  full f s a k r A = record {
    before = λ q i j o z. A.before q i j o (λ b. b);
    here = ⊎_elim (λ z. inl z) (λ z. inr (z.0, (z.1.0, (z.1.1.0, λ b. b)))) A.here;
  }

  chained_full : Chained Now g.h (m + length y) 0 0 w3
  chained_full =
      let b : p ≤ m = pm in
      let C = I.chains Now (m + length y) (omega arith) (omega arith) (λ q. refl) chained_gap in
      record {
        heads = λ s o. full Now s 0 (m + length y) (get_or w3 s 0) (C.heads s o);
        nexts = λ q o z. full Now (Now q) (q + 1) (m + length y) (next_at w3 g.h q) (C.nexts q o (λ b. b));
      }

  behind_gap : (i : ℕ) → g.h + 4 * (m + length y) ≤ i → i < g.h + 4 * g.e → get_or w3 i 0 ≡ none_word
  behind_gap i o l =
      let b : p ≤ m = pm in
      I.rest i (omega arith) ∙ K i (omega arith) ∙ G.rest i o ∙ unused w g next m hpos dpos small v i (omega arith) l

  opened : Opened g.d x (length y) m (placed g.e w g.h 0) (placed g.e w1 g.h 0) p
  opened =
      let b : p ≤ m = pm in
      let f : ℕ → Entry = entry_in w g.h in
      let h1 : ℕ → Entry = entry_in w1 g.h in
      let z0 : 0 + (p + length y) ≡ p + length y = omega arith in
      let z1 : p + (m - p) ≡ m = omega arith in
      let z2 : 0 + p ≡ p = omega arith in
      let one-high : (q : ℕ) → q < m - p → entry_in w1 g.h (p + length y + q) ≡ entry_in w g.h (p + q) =
      λ q o. (let e : p + length y + q ≡ p + q + length y = omega arith in ap h1 e) ∙ (G.higher (p + q) (omega arith) (omega arith)).0 in
      let front : take p (placed g.e w1 g.h 0) ≡ table p 0 f =
      table-take p g.e 0 h1 (omega arith) ∙ table_ext p 0 h1 f (λ q o l. (G.lower q (omega arith)).0) in
      let back : take (m - p) (drop (p + length y) (placed g.e w1 g.h 0)) ≡ table (m - p) p f =
      ap (take (m - p)) (table-drop (p + length y) g.e 0 h1 (omega arith)) ∙ table-take (m - p) (g.e - (p + length y)) (0 + (p + length y)) h1 (omega arith)
      ∙ ap (λ (j : ℕ). table (m - p) j h1) z0 ∙ table_shift (m - p) (p + length y) p h1 f one-high in
      record {
        opening = record {
          within = b;
          parts = ap₂ (λ (es fs : List Entry). es ++ fs) front back ∙ ap (λ (j : ℕ). table p 0 f ++ table (m - p) j f) (sym z2)
              ∙ sym (table-append p (m - p) 0 f) ∙ ap (λ (j : ℕ). table j 0 f) z1 ∙ sym (table-take m g.e 0 f (omega arith));
          higher = subst (NotBelow g.d x) (sym back) (not-below g.d x (m - p) p f (λ q o l. stripe-from x g.d (address_at w g.h q) dpos (P.higher q o (omega arith))));
        };
        lower = λ o. subst (λ (z : Entry). z.address / g.d < x) (sym (got w1 (p - 1) (omega arith) ∙ (G.lower (p - 1) (omega arith)).0))
            ((div-lt_iff_lt-mul dpos).1 (P.lower (p - 1) (omega arith)));
      }

  merged-all : table (m + length y) 0 (entry_in w2 g.h) ≡ merged y (entries w g)
  merged-all =
      let l1 : length (placed g.e w1 g.h 0) ≡ g.e = length-table g.e 0 (entry_in w1 g.h) in
      sym (table-take (m + length y) g.e 0 (entry_in w2 g.h) R)
      ∙ spread_merged g.d x m p y (placed g.e w g.h 0) (placed g.e w1 g.h 0) (placed g.e w2 g.h 0) (entries w g) dpos sg
      (entries_rising w g next m hpos dpos small v)
      (λ z n. eqb-false (z.address / g.d) x (drop_in g.d (λ k. eqb k x) z (entries w g) (subst (λ (es : List Entry). InE z es) (sym clean) n)).1)
      (omega arith) (table-take m g.e 0 (entry_in w g.h) (omega arith) ∙ sym (entries_are w g next m hpos dpos small v)) opened L

  pub put_in : w3 ≡ encode g (merged y (entries w g))
  put_in = told g hpos small (entry_in w2 g.h) (m + length y) R w3 l3 (λ q o. I.entries q) chained_full behind_gap ∙ ap (encode g) merged-all

-- ---- stripe x's entries dropped from a list, which leaves the bytes l, and the entries y put in

module _ {g : Geometry} {n x m : ℕ} {was l : List ℕ} {y : List Entry} (M : Measures g was) (V : Lists (words was) g n) (R : Replaces g x (words was) y)
    (D : Rewritten g (drop_stripe g.d x (entries (words was) g)) l m) where
  left_stands : entries (words l) g ≡ drop_stripe g.d x (entries (words was) g)
  left_stands = ap (λ (z : List ℕ). entries z g) D.1.0 ∙ (dropped (words was) g V.next n (λ k. eqb k x) M.h0 M.d0 M.e1 V.passing).stands

  pub left_lists : Lists (words l) g m
  left_lists =
      record {
        next = V.next;
        passing = ap₂ (λ (z : List ℕ) (k : ℕ). valid z g V.next k) D.1.0 D.1.1 ∙ (dropped (words was) g V.next n (λ k. eqb k x) M.h0 M.d0 M.e1 V.passing).passes;
      }

  pub left_clean : drop_stripe g.d x (entries (words l) g) ≡ entries (words l) g
  left_clean = ap (drop_stripe g.d x) left_stands ∙ drop-none g.d (λ k. eqb k x) (drop_stripe g.d x (entries (words was) g)) (λ z i. (drop_in g.d (λ k. eqb k x) z (entries (words was) g) i).1) ∙ sym left_stands

  pub left_replaces : Replaces g x (words l) y
  left_replaces =
      let a : length (drop_stripe g.d x (entries (words l) g)) ≡ length (drop_stripe g.d x (entries (words was) g)) = ap length (left_clean ∙ left_stands) in
      record { there = R.there; room = (let b = R.room in omega arith); segment = R.segment }

  pub left_rewritten : (u : List ℕ) → words u ≡ encode g (merged y (entries (words l) g)) → length u ≡ 4 * (g.h + 4 * g.e) → ((i : ℕ) → get_or u i 0 < 256)
      → Rewritten g (merged y (drop_stripe g.d x (entries (words was) g))) u (m + length y)
  left_rewritten u e long low =
      let is : words u ≡ encode g (merged y (drop_stripe g.d x (entries (words was) g))) = e ∙ ap (λ (es : List Entry). encode g (merged y es)) left_stands in
      (sym (bytes-words u (g.h + 4 * g.e) long low) ∙ ap bytes_of is, (is, ap (λ (k : ℕ). k + length y) D.1.1 ∙ sym (length_merged y (drop_stripe g.d x (entries (words was) g)))))
