-- Parity and recovery of rows of blocks, from the stripe's laws of one column: parity sees its data blocks only, zeros have zeros for parity, and a
-- data block that is missing, with at most one other role, is worked back exactly.
-- Assumes nothing.
use mathlib.Core.Bool.{Bool, true, false, not, ◌&&◌}
use mathlib.Core.List.{List}
use mathlib.Core.Logic.{inl, inr, ◌≢◌}
use mathlib.Core.Path.{◌≡◌, sym, ap, ap₂, ◌∙◌, subst}
use Prim.Native.Nat.{ℕ, ◌+◌, ◌*◌, ◌≤◌, ◌<◌}
use native.Mathlib.Decide.{dec_lt}
use native.Mathlib.Omega.{arith}
use lib.Dec.{eqb, ltb}
use lib.ListN.{length, get_or, get_or-eq_default}
use borrow.Author.Tests.{lt-ltb, le-ltb, eq-eqb, ne_eqb}
use Rattle.stripe.specs.Blocks.{gen, block}
use Rattle.stripe.specs.Parity.{made, parity_of, Recoverable, solved}
use Rattle.stripe.specs.Sound.{AreBytes}
use Rattle.stripe.proofs.Laws.{parity_ext, zeros_obey, by_role, made_obeys, made_data, made-parity, solved_exact, fits, length-block, get_or-block, length-gen, get_or-gen, gen_of, gen_ext}
use Rattle.shelf.specs.Counting.{any, first}
use Rattle.shelf.specs.Members.{IsBlock, blank, column, block_parity, other_missing, worked_back, array_members}
use Rattle.shelf.specs.declared.record.Geometry.{Geometry}
use Rattle.shelf.proofs.general.CountLaws.{any_none, first_found}
use Rattle.shelf.proofs.general.TestLaws.{cases, clash, choose_true, choose_false, and_fine, and_left, and_right}

pub block_parity_ext : (g : Geometry) (p : ℕ) (f h : ℕ → List ℕ) → ((i : ℕ) → i < g.d → f i ≡ h i) → block_parity g p f ≡ block_parity g p h
unfolding block_parity
block_parity_ext g p f h e =
    gen_ext g.b (λ j. parity_of p g.d (column f j)) (λ j. parity_of p g.d (column h j))
    (λ j _. parity_ext p g.d (column f j) (column h j) (λ i l. ap (λ (v : List ℕ). get_or v j 0) (e i l)))

-- ---- zeros

blank_byte : (g : Geometry) (j : ℕ) → j < g.b → get_or (blank g) j 0 ≡ 0
unfolding blank
blank_byte g j h = get_or-gen g.b (λ _. 0) j h

pub blank_parity : (g : Geometry) (p : ℕ) → block_parity g p (λ _. blank g) ≡ blank g
unfolding block_parity
blank_parity g p =
    sym (gen_of g.b (λ j. parity_of p g.d (column (λ _. blank g) j)) (blank g) (blank-length g)
    (λ j h. blank_byte g j h ∙ sym (sym ((zeros_obey g.d (p + 1) (column (λ _. blank g) j) (λ i _. blank_byte g j h)).each p (omega arith)) ∙ blank_byte g j h)))
  where
    blank-length : (g : Geometry) → length (blank g) ≡ g.b
    blank-length g = unfold blank in length-gen g.b (λ _. 0)

-- ---- made blocks are blocks, and so are those of a buffer

-- a list of b elements, each of them a byte
by_bytes : (g : Geometry) (v : List ℕ) → length v ≡ g.b → ((j : ℕ) → j < g.b → get_or v j 0 < 256) → IsBlock g v
by_bytes g v long h = (long, bytes)
  where
    bytes : (j : ℕ) → get_or v j 0 < 256
    bytes j =
        elim (dec_lt j g.b) [
          | yes p ↦ h j p
          | no p ↦ subst (λ (n : ℕ). n < 256) (sym (get_or-eq_default v 0 (omega (arith, long)))) (omega arith)
        ]

-- a list that is given by bytes
pub gen-block : (g : Geometry) (f : ℕ → ℕ) → ((j : ℕ) → j < g.b → f j < 256) → IsBlock g (gen g.b f)
gen-block g f h = by_bytes g (gen g.b f) (length-gen g.b f) (λ j p. subst (λ (n : ℕ). n < 256) (sym (get_or-gen g.b f j p)) (h j p))

-- a block of a buffer of bytes
pub cut-block : (g : Geometry) (n N : ℕ) (l : List ℕ) → AreBytes l → length l ≡ N * g.b → n < N → IsBlock g (block g.b n l)
cut-block g n N l bytes long h =
    by_bytes g (block g.b n l) (length-block g.b n l (fits n N g.b l long h))
    (λ j p. subst (λ (c : ℕ). c < 256) (sym (get_or-block g.b n l j p)) (bytes (n * g.b + j)))

pub blank-block : (g : Geometry) → IsBlock g (blank g)
unfolding blank
blank-block g = gen-block g (λ _. 0) (λ j _. omega arith)

-- ---- recovery

-- no three in order are missing: no three different ones are
unordered : (n : ℕ) (m : ℕ → Bool) → ((i j l : ℕ) → i < j → j < l → l < n → m i ≡ true → m j ≡ true → m l ≡ true → ⊥)
    → (i j l : ℕ) → i < n → j < n → l < n → i ≢ j → i ≢ l → j ≢ l → m i ≡ true → m j ≡ true → m l ≡ true → ⊥
unordered n m few i j l hi hj hl ij il jl ei ej el =
    elim (dec_lt i j) [
      | yes p ↦ elim (dec_lt j l) [
        | yes q ↦ few i j l p q hl ei ej el
        | no q ↦ elim (dec_lt i l) [ yes r ↦ few i l j r (omega arith) hj ei el ej | no r ↦ few l i j (omega arith) p hj el ei ej ]
      ]
      | no p ↦ elim (dec_lt i l) [
        | yes q ↦ few j i l (omega arith) q hl ej ei el
        | no q ↦ elim (dec_lt j l) [ yes r ↦ few j l i r (omega arith) hi ej el ei | no r ↦ few l j i (omega arith) (omega arith) hi el ej ei ]
      ]
    ]

-- no more roles are missing than there are parities
abbrev pub FewMissing : Geometry → (ℕ → Bool) → Type 0
FewMissing g missing =
    (g.parities ≡ 1 → (i j : ℕ) → i < j → j < array_members g → missing i ≡ true → missing j ≡ true → ⊥)
    × ((i j l : ℕ) → i < j → j < l → l < array_members g → missing i ≡ true → missing j ≡ true → missing l ≡ true → ⊥)

-- the other missing role: with two parities the lowest, with one none
module _ (g : Geometry) (missing : ℕ → Bool) (i : ℕ) where
  abbrev found : ℕ
  found = first (array_members g) (λ n. missing n && not (eqb n i))

  pub other_first : 1 < g.parities → first (array_members g) (λ n. missing n && not (eqb n i)) < array_members g
      → other_missing g missing i ≡ first (array_members g) (λ n. missing n && not (eqb n i))
  unfolding other_missing
  other_first two there =
      choose_true (ltb 1 g.parities && ltb found (array_members g)) found i (ap₂ ◌&&◌ (lt-ltb 1 g.parities two) (lt-ltb found (array_members g) there))

  pub other_none : array_members g ≤ first (array_members g) (λ n. missing n && not (eqb n i)) → other_missing g missing i ≡ i
  unfolding other_missing
  other_none past =
      choose_false (ltb 1 g.parities && ltb found (array_members g)) found i
      (and_fine (ltb 1 g.parities) (ltb found (array_members g)) (λ _. le-ltb found (array_members g) past))

  pub other_one : g.parities ≤ 1 → other_missing g missing i ≡ i
  unfolding other_missing
  other_one one =
      choose_false (ltb 1 g.parities && ltb found (array_members g)) found i
      (ap (λ (t : Bool). t && ltb found (array_members g)) (le-ltb 1 g.parities one))

  pub other_few : Recoverable g.parities i (other_missing g missing i)
  other_few = elim (dec_lt 1 g.parities) [ yes l ↦ inr l | no l ↦ inl (sym (other_one (omega arith))) ]

  not_eqb : (n : ℕ) → not (eqb n i) ≡ true → n ≢ i
  not_eqb n e q = clash e (ap not (eq-eqb n i q))

  -- a role that is neither i nor the other missing one is there
  pub rest-there : 1 ≤ g.parities → FewMissing g missing → i < g.d → missing i ≡ true
      → (n : ℕ) → n < g.d + g.parities → n ≢ i → n ≢ other_missing g missing i → missing n ≡ false
  rest-there some few hi mi n hn ni ny =
      cases (missing n) (λ m. elim (dec_lt 1 g.parities) [ yes l ↦ two m l | no l ↦ one m (omega arith) ]) (λ m. m)
    where
      two : missing n ≡ true → 1 < g.parities → missing n ≡ false
      two m k =
          cases (any (array_members g) (λ k. missing k && not (eqb k i)))
          (λ t.
          let f = first_found (array_members g) (λ k. missing k && not (eqb k i)) t in
          let e : other_missing g missing i ≡ found = other_first k f.0 in
          absurd (unordered (array_members g) missing few.1 i found n (omega arith) f.0 hn
          (λ q. not_eqb found (and_right (missing found) (not (eqb found i)) f.1) (sym q)) (λ q. ni (sym q)) (λ q. ny (sym q ∙ sym e))
          mi (and_left (missing found) (not (eqb found i)) f.1) m))
          (λ t. clash (ap₂ ◌&&◌ m (ap not (ne_eqb n i ni))) (any_none (array_members g) (λ k. missing k && not (eqb k i)) t n hn))

      one : missing n ≡ true → g.parities ≡ 1 → missing n ≡ false
      one m single =
          elim (dec_lt i n) [ yes p ↦ absurd (few.0 single i n p hn mi m) | no p ↦ absurd (few.0 single n i (omega arith) (omega arith) m mi) ]

pub worked_exact : (g : Geometry) → g.d ≤ 16 → 1 ≤ g.parities → (missing : ℕ → Bool) (r row : ℕ → List ℕ)
    → FewMissing g missing
    → ((i : ℕ) → i < g.d → IsBlock g (row i))
    → ((i : ℕ) → i < g.d → missing i ≡ false → r i ≡ row i)
    → ((p : ℕ) → p < g.parities → missing (g.d + p) ≡ false → r (g.d + p) ≡ block_parity g p row)
    → (i : ℕ) → i < g.d → missing i ≡ true → worked_back g missing r i ≡ row i
unfolding worked_back
worked_exact g hd some missing r row few proper there-data there-parity i hi mi =
    sym (gen_of g.b (λ j. solved g.d i (other_missing g missing i) (column r j)) (row i) (proper i hi).0 byte)
  where
    column-parity : (p j : ℕ) → j < g.b → r (g.d + p) ≡ block_parity g p row → get_or (r (g.d + p)) j 0 ≡ parity_of p g.d (column row j)
    column-parity p j hj e = ap (λ (v : List ℕ). get_or v j 0) e ∙ unfold block_parity in get_or-gen g.b (λ k. parity_of p g.d (column row k)) j hj

    same : (j : ℕ) → j < g.b → (n : ℕ) → n < g.d + g.parities → n ≢ i → n ≢ other_missing g missing i → column r j n ≡ made g.d (column row j) n
    same j hj n hn ni ny =
        let m : missing n ≡ false = rest-there g missing i some few hi mi n hn ni ny in
        by_role g.d n (λ k. column r j k ≡ made g.d (column row j) k)
        (λ p. ap (λ (v : List ℕ). get_or v j 0) (there-data n p m) ∙ sym (made_data g.d (column row j) n p))
        (λ p e. column-parity p j hj (there-parity p (omega arith) (ap missing (sym e) ∙ m)) ∙ sym (made-parity g.d (column row j) p))

    byte : (j : ℕ) → j < g.b → get_or (row i) j 0 ≡ solved g.d i (other_missing g missing i) (column r j)
    byte j hj =
        sym (solved_exact g.d g.parities i (other_missing g missing i) (made g.d (column row j)) (column r j) hd some (other_few g missing i)
        (λ n p. subst (λ (v : ℕ). v < 256) (sym (made_data g.d (column row j) n p)) ((proper n p).1 j)) (made_obeys g.d g.parities (column row j)) (same j hj) hi
        ∙ made_data g.d (column row j) i hi)
