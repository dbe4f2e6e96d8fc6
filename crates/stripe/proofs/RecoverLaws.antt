-- Laws of recovery in two steps: each step on every column, one after the other, is what recovery is defined to be.
-- Assumes nothing.
use mathlib.Core.Bool.{Bool, true, false, ◌||◌}
use mathlib.Core.List.{List, ◌++◌, append-nil}
use mathlib.Core.Logic.{◌⊎◌, inl, inr, ⊎_elim, ◌≢◌}
use mathlib.Core.Path.{◌≡◌, refl, sym, ap, ap₂, ◌∙◌, subst}
use Prim.Native.Nat.{ℕ, ◌+◌, ◌*◌, ◌≤◌, ◌<◌}
use native.Mathlib.Omega.{arith}
use lib.Bits.{bit_xor}
use lib.Dec.{eqb}
use lib.ListN.{length, get_or}
use borrow.Author.Tests.{eq-eqb, ne_eqb}
use Rattle.field.specs.Field.{times, inverse}
use Rattle.field.proofs.Laws.{xor_zero_l}
use Rattle.stripe.specs.Blocks.{gen, byte_of, put}
use Rattle.stripe.specs.Parity.{pick, parity_p, parity_q, made, Recoverable, without, rest_p, solved, data_solved, recovered}
use Rattle.stripe.specs.Places.{in_order, numbered, column_at, by_column, parity_made}
use Rattle.stripe.specs.below.Tables.{Held}
use Rattle.stripe.specs.below.Steps.{plus, there_p, stand_in, standing_q, coefficient, of_sum, sum_of, replaced, data_step, parity_step}
use Rattle.stripe.specs.below.Gathering.{buffer, at_role, gathered, added, Holds}
use Rattle.stripe.specs.below.Recovery.{Workable, replaced_in, OwnOriginals}
use Rattle.stripe.specs.declared.solve.Originals.{Originals}
use Rattle.stripe.specs.declared.recover.Shape.{Shape}
use Rattle.stripe.specs.Calls.{each_column}
use Rattle.stripe.proofs.Lists.{less_or_not, gen_ext}
use Rattle.stripe.proofs.BlockLaws.{fits, ext_bytes, get_or-put_in}
use Rattle.stripe.proofs.Sums.{same_or_not, pick_same, pick_other, pick_less, pick-not_less, without_other, without_ext}
use Rattle.stripe.proofs.ColumnLaws.{made_data, made_p, made_q, made_ext, parity_p_ext, parity_q_ext, solved_ignores, second_of_two, rest_p_ext, stand_in_plain, recovered_other}
use Rattle.stripe.proofs.SolveLaws.{by_p, by_q, stand_in_first, stand_in_second, stand_in_other}
use Rattle.stripe.proofs.PlaceLaws.{by_column_ext}
use Rattle.stripe.proofs.CallLaws.{put-column, made_alone}
use Rattle.stripe.proofs.StripeTheorems.{length-changed, byte_changed}

-- ---- a role given anew

module _ (m : ℕ) (h : (ℕ → ℕ) → ℕ) (D : ℕ → ℕ) where
  replaced_here : (i : ℕ) → i ≡ m → replaced m h D i ≡ h D
  unfolding replaced
  replaced_here i e = pick_same i m (h D) (D i) e

  replaced_other : (i : ℕ) → i ≢ m → replaced m h D i ≡ D i
  unfolding replaced
  replaced_other i ne = pick_other i m (h D) (D i) ne

-- ---- a stripe changed in steps

-- what f makes of a column depends on its n roles alone
abbrev Local : ℕ → ((ℕ → ℕ) → ℕ → ℕ) → Type 0
Local n f = (D E : ℕ → ℕ) → ((i : ℕ) → i < n → D i ≡ E i) → (i : ℕ) → i < n → f D i ≡ f E i

changed_ext : (f g : (ℕ → ℕ) → ℕ → ℕ) (n b : ℕ) (l : List ℕ) → ((j i : ℕ) → j < b → i < n → f (λ k. byte_of b l k j) i ≡ g (λ k. byte_of b l k j) i)
    → each_column f n b l ≡ each_column g n b l
changed_ext f g n b l e =
    ext_bytes b n (each_column f n b l) (each_column g n b l) (length-changed f n b l) (length-changed g n b l)
    (λ i j p q. byte_changed f n b l i j p q ∙ e j i q p ∙ sym (byte_changed g n b l i j p q))

-- nothing changed
unchanged : (f : (ℕ → ℕ) → ℕ → ℕ) (n b : ℕ) (l : List ℕ) → length l ≡ n * b
    → ((j i : ℕ) → j < b → i < n → f (λ k. byte_of b l k j) i ≡ byte_of b l i j) → l ≡ each_column f n b l
unchanged f n b l len e = ext_bytes b n l (each_column f n b l) len (length-changed f n b l) (λ i j p q. sym (byte_changed f n b l i j p q ∙ e j i q p))

-- one change after another
changed_twice : (f g : (ℕ → ℕ) → ℕ → ℕ) (n b : ℕ) (l : List ℕ) → Local n g → each_column g n b (each_column f n b l) ≡ each_column (λ D. g (f D)) n b l
changed_twice f g n b l local =
    ext_bytes b n (each_column g n b m) (each_column (λ D. g (f D)) n b l) (length-changed g n b m) (length-changed (λ D. g (f D)) n b l)
    (λ i j p q.
    byte_changed g n b m i j p q
    ∙ local (λ k. byte_of b m k j) (f (λ k. byte_of b l k j)) (λ k r. byte_changed f n b l k j r q) i p
    ∙ sym (byte_changed (λ D. g (f D)) n b l i j p q))
  where
    m : List ℕ
    m = each_column f n b l

local_replaced : (n m : ℕ) (h : (ℕ → ℕ) → ℕ) → ((D E : ℕ → ℕ) → ((i : ℕ) → i < n → D i ≡ E i) → h D ≡ h E) → Local n (replaced m h)
local_replaced n m h e D E same i p =
    ⊎_elim (λ q. replaced_here m h D i q ∙ e D E same ∙ sym (replaced_here m h E i q)) (λ q. replaced_other m h D i q ∙ same i p ∙ sym (replaced_other m h E i q)) (same_or_not i m)

-- ---- the step of the data

module _ (d x y : ℕ) (D : ℕ → ℕ) where
  -- data, recovered or as it was, and parity as it was
  data_is : (i : ℕ) → i < d → data_step d x y D i ≡ data_solved d x y D i
  unfolding data_step
  data_is i h = pick_less i d (data_solved d x y D i) (D i) h

  parity-is : (i : ℕ) → d ≤ i → data_step d x y D i ≡ D i
  unfolding data_step
  parity-is i h = pick-not_less i d (data_solved d x y D i) (D i) h

  data_first : (i : ℕ) → i < d → i ≡ x → data_step d x y D i ≡ solved d x y D
  data_first i h e = data_is i h ∙ unfold data_solved in pick_same i x (solved d x y D) (pick (eqb i y) (solved d y x D) (D i)) e

  data_second : (i : ℕ) → i < d → i ≢ x → i ≡ y → data_step d x y D i ≡ solved d y x D
  data_second i h ne e =
      data_is i h
      ∙ unfold data_solved in (pick_other i x (solved d x y D) (pick (eqb i y) (solved d y x D) (D i)) ne ∙ pick_same i y (solved d y x D) (D i) e)

  -- a role that is neither, where it is data
  data_kept : (i : ℕ) → (i < d → (i ≢ x) × (i ≢ y)) → data_step d x y D i ≡ D i
  data_kept i away =
      ⊎_elim
      (λ h. data_is i h ∙ unfold data_solved in (pick_other i x (solved d x y D) (pick (eqb i y) (solved d y x D) (D i)) (away h).0 ∙ pick_other i y (solved d y x D) (D i) (away h).1))
      (parity-is i) (less_or_not i d)

-- one of them is data, or x and y are the same data, or none is
module _ (d x y : ℕ) (D : ℕ → ℕ) (i : ℕ) where
  one_first : x < d → (x ≡ y) ⊎ (d ≤ y) → replaced x (solved d x y) D i ≡ data_step d x y D i
  one_first hx alone =
      ⊎_elim (λ e. replaced_here x (solved d x y) D i e ∙ sym (data_first d x y D i (omega arith) e))
      (λ ne. replaced_other x (solved d x y) D i ne ∙ sym (data_kept d x y D i (λ l. (ne, ⊎_elim (λ e f. ne (f ∙ sym e)) (λ h f. omega arith) alone)))) (same_or_not i x)

  one_second : d ≤ x → y < d → replaced y (solved d y x) D i ≡ data_step d x y D i
  one_second hx hy =
      ⊎_elim (λ e. replaced_here y (solved d y x) D i e ∙ sym (data_second d x y D i (omega arith) (λ f. omega arith) e))
      (λ nf. replaced_other y (solved d y x) D i nf ∙ sym (data_kept d x y D i (λ l. ((λ f. omega arith), nf)))) (same_or_not i y)

  none_data : d ≤ x → d ≤ y → data_step d x y D i ≡ D i
  none_data hx hy = data_kept d x y D i (λ l. ((λ f. omega arith), (λ f. omega arith)))

-- both are data: y gets the sum of both, x comes from Q's sum in which that stands for y, and y is the rest
module _ (d x y : ℕ) (D : ℕ → ℕ) (hd : d ≤ 16) (byte : D d < 256) (hx : x < d) (hy : y < d) (ne : x ≢ y) where
  summed : ℕ → ℕ
  summed = replaced y (rest_p d x y) D

  split : ℕ → ℕ
  split = replaced x (of_sum d x y) summed

  summed_other : (i : ℕ) → i ≢ y → summed i ≡ D i
  unfolding summed
  summed_other i nf = replaced_other y (rest_p d x y) D i nf

  summed_here : summed y ≡ rest_p d x y D
  unfolding summed
  summed_here = replaced_here y (rest_p d x y) D y refl

  -- the sum, in y's place, stands in for y
  stands : (i : ℕ) → i < d → stand_in d x x summed i ≡ stand_in d x y D i
  stands i h =
      ⊎_elim
      (λ e. stand_in_first d x x summed i e ∙ sym (stand_in_first d x y D i e))
      (λ nx. stand_in_other d x x summed i nx nx
      ∙ ⊎_elim (λ e. ap summed e ∙ summed_here ∙ sym (stand_in_second d x y D i nx e)) (λ nf. summed_other i nf ∙ sym (stand_in_other d x y D i nx nf)) (same_or_not i y))
      (same_or_not i x)

  out_of_sum : of_sum d x y summed ≡ solved d x y D
  unfolding of_sum standing_q
  out_of_sum =
      ap₂ (λ (s q : ℕ). times (inverse (coefficient d x y)) (bit_xor s q)) (parity_q_ext d (stand_in d x x summed) (stand_in d x y D) stands) (summed_other (d + 1) (λ e. omega arith))
      ∙ unfold standing_q in by_q d x y D ne (omega arith)

  split_here : split x ≡ solved d x y D
  unfolding split
  split_here = replaced_here x (of_sum d x y) summed x refl ∙ out_of_sum

  split_other : (i : ℕ) → i ≢ x → split i ≡ summed i
  unfolding split
  split_other i nx = replaced_other x (of_sum d x y) summed i nx

  two_data : (i : ℕ) → replaced y (sum_of x y) (replaced x (of_sum d x y) (replaced y (rest_p d x y) D)) i ≡ data_step d x y D i
  unfolding summed split
  two_data i =
      ⊎_elim
      (λ e. replaced_here y (sum_of x y) split i e
      ∙ unfold sum_of in (ap₂ bit_xor split_here (split_other y (λ f. ne (sym f)) ∙ summed_here) ∙ second_of_two d x y D hd hx hy ne byte)
      ∙ sym (data_second d x y D i (omega arith) (λ f. ne (sym f ∙ e)) e))
      (λ nf. replaced_other y (sum_of x y) split i nf
      ∙ ⊎_elim (λ e. ap split e ∙ split_here ∙ sym (data_first d x y D i (omega arith) e))
      (λ nx. split_other i nx ∙ summed_other i nf ∙ sym (data_kept d x y D i (λ _. (nx, nf)))) (same_or_not i x))
      (same_or_not i y)

-- ---- the step of the parity

-- a role is data, P or Q
role : (d i : ℕ) → i < d + 2 → (i < d) ⊎ ((i ≡ d) ⊎ (i ≡ d + 1))
role d i h = ⊎_elim (λ l. inl l) (λ l. inr (⊎_elim (λ e. inl e) (λ ne. inr (omega arith)) (same_or_not i d))) (less_or_not i d)

module _ (d x y : ℕ) where
  module _ (D : ℕ → ℕ) (i : ℕ) where
    named : (eqb x i || eqb y i) ≡ true → parity_step d x y D i ≡ made d D i
    unfolding parity_step pick
    named e = ap (λ (t : Bool). pick t (made d D i) (D i)) e

    not_named : (eqb x i || eqb y i) ≡ false → parity_step d x y D i ≡ D i
    unfolding parity_step pick
    not_named e = ap (λ (t : Bool). pick t (made d D i) (D i)) e

    -- data stays, named or not
    data_stays : i < d → parity_step d x y D i ≡ D i
    unfolding parity_step
    data_stays h = either (eqb x i || eqb y i)
      where
        either : (t : Bool) → pick t (made d D i) (D i) ≡ D i
        either true = unfold pick in made_data d D i h
        either false = unfold pick in refl

  parity_local : (n : ℕ) → d ≤ n → Local n (parity_step d x y)
  unfolding parity_step
  parity_local n hn D E same i h = either (eqb x i || eqb y i)
    where
      either : (t : Bool) → pick t (made d D i) (D i) ≡ pick t (made d E i) (E i)
      either true = unfold pick in made_ext d D E (λ k l. same k (omega arith)) i
      either false = unfold pick in same i h

  -- P and Q are named, one of them, none
  module _ (D : ℕ → ℕ) (i : ℕ) (h : i < d + 2) where
    both_made : (eqb x d || eqb y d) ≡ true → (eqb x (d + 1) || eqb y (d + 1)) ≡ true → made d D i ≡ parity_step d x y D i
    both_made tp tq =
        ⊎_elim (λ l. made_data d D i l ∙ sym (data_stays D i l))
        (⊎_elim
        (λ e. ap (made d D) e ∙ sym (named D d tp) ∙ ap (parity_step d x y D) (sym e))
        (λ e. ap (made d D) e ∙ sym (named D (d + 1) tq) ∙ ap (parity_step d x y D) (sym e)))
        (role d i h)

    p_made : (eqb x d || eqb y d) ≡ true → (eqb x (d + 1) || eqb y (d + 1)) ≡ false → replaced d (parity_p d) D i ≡ parity_step d x y D i
    p_made tp tq =
        ⊎_elim (λ l. replaced_other d (parity_p d) D i (λ e. omega arith) ∙ sym (data_stays D i l))
        (⊎_elim
        (λ e. replaced_here d (parity_p d) D i e ∙ sym (made_p d D) ∙ sym (named D d tp) ∙ ap (parity_step d x y D) (sym e))
        (λ e. replaced_other d (parity_p d) D i (λ f. omega arith) ∙ ap D e ∙ sym (not_named D (d + 1) tq) ∙ ap (parity_step d x y D) (sym e)))
        (role d i h)

    q_made : (eqb x d || eqb y d) ≡ false → (eqb x (d + 1) || eqb y (d + 1)) ≡ true → replaced (d + 1) (parity_q d) D i ≡ parity_step d x y D i
    q_made tp tq =
        ⊎_elim (λ l. replaced_other (d + 1) (parity_q d) D i (λ e. omega arith) ∙ sym (data_stays D i l))
        (⊎_elim
        (λ e. replaced_other (d + 1) (parity_q d) D i (λ f. omega arith) ∙ ap D e ∙ sym (not_named D d tp) ∙ ap (parity_step d x y D) (sym e))
        (λ e. replaced_here (d + 1) (parity_q d) D i e ∙ sym (made_q d D) ∙ sym (named D (d + 1) tq) ∙ ap (parity_step d x y D) (sym e)))
        (role d i h)

    none_made : (eqb x d || eqb y d) ≡ false → (eqb x (d + 1) || eqb y (d + 1)) ≡ false → parity_step d x y D i ≡ D i
    none_made tp tq =
        ⊎_elim (data_stays D i)
        (⊎_elim (λ e. ap (parity_step d x y D) e ∙ not_named D d tp ∙ ap D (sym e)) (λ e. ap (parity_step d x y D) e ∙ not_named D (d + 1) tq ∙ ap D (sym e)))
        (role d i h)

-- ---- the two steps are recovery

module _ (d x y : ℕ) (D : ℕ → ℕ) (i : ℕ) where
  -- a role is named, or is not
  named_or_not : ((i ≡ x) ⊎ (i ≡ y)) ⊎ ((i ≢ x) × (i ≢ y))
  named_or_not = ⊎_elim (λ e. inl (inl e)) (λ u. ⊎_elim (λ e. inl (inr e)) (λ v. inr (u, v)) (same_or_not i y)) (same_or_not i x)

  test_true : (i ≡ x) ⊎ (i ≡ y) → (eqb x i || eqb y i) ≡ true
  test_true = ⊎_elim (λ e. ap (λ (t : Bool). t || eqb y i) (eq-eqb x i (sym e))) (λ e. either (eqb x i) (eq-eqb y i (sym e)))
    where
      either : (s : Bool) → eqb y i ≡ true → (s || eqb y i) ≡ true
      either true f = refl
      either false f = f

  test_false : (i ≢ x) × (i ≢ y) → (eqb x i || eqb y i) ≡ false
  test_false n = ap₂ (λ (s t : Bool). s || t) (ne_eqb x i (λ e. n.0 (sym e))) (ne_eqb y i (λ e. n.1 (sym e)))

  recovered-named : (i ≡ x) ⊎ (i ≡ y) → recovered d x y D i ≡ made d (data_solved d x y D) i
  unfolding recovered
  recovered-named =
      ⊎_elim (λ e. pick_same i x (made d (data_solved d x y D) i) (pick (eqb i y) (made d (data_solved d x y D) i) (D i)) e)
      (λ e. ⊎_elim (λ f. pick_same i x (made d (data_solved d x y D) i) (pick (eqb i y) (made d (data_solved d x y D) i) (D i)) f)
      (λ f. pick_other i x (made d (data_solved d x y D) i) (pick (eqb i y) (made d (data_solved d x y D) i) (D i)) f ∙ pick_same i y (made d (data_solved d x y D) i) (D i) e) (same_or_not i x))

  steps_recover : parity_step d x y (data_step d x y D) i ≡ recovered d x y D i
  steps_recover =
      ⊎_elim
      (λ n. named d x y (data_step d x y D) i (test_true n) ∙ made_ext d (data_step d x y D) (data_solved d x y D) (data_is d x y D) i ∙ sym (recovered-named n))
      (λ n. not_named d x y (data_step d x y D) i (test_false n) ∙ data_kept d x y D i (λ _. n) ∙ sym (recovered_other d x y D i n.0 n.1))
      named_or_not

-- ---- a block gathered in work and copied out

solved_local : (d k x y : ℕ) → 1 ≤ k → Recoverable k x y → x < d → (D E : ℕ → ℕ) → ((i : ℕ) → i < d + k → D i ≡ E i) → solved d x y D ≡ solved d x y E
solved_local d k x y some few h D E e = solved_ignores d k x y D E some few h (λ i p u v. e i p)

of_sum_local : (d k x y : ℕ) → 2 ≤ k → x < d → (D E : ℕ → ℕ) → ((i : ℕ) → i < d + k → D i ≡ E i) → of_sum d x y D ≡ of_sum d x y E
unfolding of_sum standing_q
of_sum_local d k x y two h D E e =
    ap₂ (λ (s q : ℕ). times (inverse (coefficient d x y)) (bit_xor s q))
    (parity_q_ext d (stand_in d x x D) (stand_in d x x E)
    (λ i p. stand_in_plain d x x D i (inl refl) p ∙ without_ext x x D E i (λ u v. e i (omega arith)) ∙ sym (stand_in_plain d x x E i (inl refl) p)))
    (e (d + 1) (omega arith))

in_order_lem : (i : ℕ) → in_order i ≡ i
unfolding in_order
in_order_lem i = refl

-- fewer roles are held too
pub fewer_held : {m n b size : ℕ} {ns : List ℕ} → m ≤ n → Held n b size ns → Held m b size ns
fewer_held h t = record { long = (let l = t.long in omega arith); within = λ i p. t.within i (omega arith) }

-- the numbers of a stripe's own roles
pub own_held : (s : Shape) (l : List ℕ) → length l ≡ (s.d + s.parities) * s.b → length s.numbers ≡ 18 → Held (s.d + s.parities) s.b (length l + 0) s.numbers
own_held s l long wide =
    record {
      long = omega (arith, wide, s.measures.data_most, s.measures.parity-most);
      within = λ i h. subst (λ (m : ℕ). m * s.b + s.b ≤ length l + 0) (sym (s.table i h ∙ in_order_lem i)) (omega (arith, fits i (s.d + s.parities) s.b l long h));
    }

-- the stripe l of shape s, as originals
module _ (s : Shape) (l : List ℕ) (o : Originals) (is : OwnOriginals s l o) (long : length l ≡ (s.d + s.parities) * s.b) where
  some : 1 ≤ s.parities
  some = s.measures.parity-least

  buffer_is : buffer o ≡ l
  buffer_is = ap₂ (λ (a g : List ℕ). a ++ g) is.array_is is.log_is ∙ append-nil l

  -- a byte of a role
  own_byte : (i j : ℕ) → i < s.d + s.parities → column_at (numbered o.numbers.now) o.b (buffer o) j i ≡ get_or l (i * s.b + j) 0
  unfolding column_at byte_of numbered
  own_byte i j h =
      ap₂ (λ (n : ℕ) (a : List ℕ). get_or a (n * o.b + j) 0) (ap (λ (ns : List ℕ). get_or ns i 0) is.numbers_are ∙ s.table i h ∙ in_order_lem i) buffer_is
      ∙ ap (λ (b : ℕ). get_or l (i * b + j) 0) is.b_is

  -- Q is held, and every role
  pub q_held : 2 ≤ s.parities → Holds (o.d + 2) o
  q_held two = fewer_held (omega (arith, is.d_is, two)) is.held

  pub role_held : (i : ℕ) → i < s.d + s.parities → Holds (i + 1) o
  role_held i h = fewer_held (omega arith) is.held

  -- What h makes of each column, which is what g makes of it, gathered and copied to member m. In h stands the originals' number of data blocks.
  module _ (h : ℕ → (ℕ → ℕ) → ℕ) (g : (ℕ → ℕ) → ℕ) (same : (D : ℕ → ℕ) → h s.d D ≡ g D)
      (local : (D E : ℕ → ℕ) → ((i : ℕ) → i < s.d + s.parities → D i ≡ E i) → g D ≡ g E) where
    own_gathered : gathered (h o.d) o ≡ gen s.b (by_column g in_order s.b l)
    own_gathered =
        ap (λ (n : ℕ). gathered (h n) o) is.d_is
        ∙ ap (λ (n : ℕ). gen n (by_column (h s.d) (numbered o.numbers.now) n (buffer o))) is.b_is
        ∙ ap₂ (λ (ns a : List ℕ). gen s.b (by_column (h s.d) (numbered ns) s.b a)) is.numbers_are buffer_is
        ∙ gen_ext s.b (by_column (h s.d) (numbered s.numbers) s.b l) (by_column g in_order s.b l)
        (λ j q. unfold by_column in same (column_at (numbered s.numbers) s.b l j)
        ∙ unfold by_column in by_column_ext g (s.d + s.parities) local (numbered s.numbers) in_order s.b l (λ i p. unfold numbered in s.table i p) j)

    gathered_put : (m : ℕ) (w n : List ℕ) → m < s.d + s.parities → w ≡ gathered (h o.d) o → n ≡ put s.b m w l → n ≡ replaced_in s m g l
    gathered_put m w n hm ew en = en ∙ ap (λ (x : List ℕ). put s.b m x l) (ew ∙ own_gathered) ∙ put-column (s.d + s.parities) s.b l long g m hm

  pub data_put : (x y : ℕ) (w n : List ℕ) → Recoverable s.parities x y → x < s.d → w ≡ gathered (solved o.d x y) o → n ≡ put s.b x w l → n ≡ replaced_in s x (solved s.d x y) l
  data_put x y w n few hx =
      gathered_put (λ (d : ℕ). solved d x y) (solved s.d x y) (λ D. refl) (solved_local s.d s.parities x y some few hx) x w n (omega arith)

  -- the sum of x and y, copied to y; x had of it
  pub sum_put : (x y : ℕ) (w n : List ℕ) → y < s.d → w ≡ gathered (rest_p o.d x y) o → n ≡ put s.b y w l → n ≡ replaced_in s y (rest_p s.d x y) l
  sum_put x y w n hy =
      gathered_put (λ (d : ℕ). rest_p d x y) (rest_p s.d x y) (λ D. refl)
      (λ D E e. rest_p_ext s.d x y D E (λ i p u v. e i (omega arith)) (e s.d (omega (arith, some)))) y w n (omega arith)

  pub of_sum_put : 2 ≤ s.parities → (x y : ℕ) (w n : List ℕ) → x < s.d → w ≡ gathered (of_sum o.d x y) o → n ≡ put s.b x w l → n ≡ replaced_in s x (of_sum s.d x y) l
  of_sum_put two x y w n hx =
      gathered_put (λ (d : ℕ). of_sum d x y) (of_sum s.d x y) (λ D. refl) (of_sum_local s.d s.parities x y two hx) x w n (omega arith)

  -- P of zeros and the data
  pub p_put : (z w n : List ℕ) → ((j : ℕ) → j < s.b → get_or z j 0 ≡ 0) → w ≡ added (there_p o.d s.d s.d) o z → n ≡ put s.b s.d w l → n ≡ replaced_in s s.d (parity_p s.d) l
  p_put z w n hz ew =
      gathered_put (λ (d : ℕ). there_p d s.d s.d) (parity_p s.d) all_there (λ D E e. parity_p_ext s.d D E (λ i p. e i (omega arith))) s.d w n (omega (arith, some)) (ew ∙ alone)
    where
      all_there : (D : ℕ → ℕ) → there_p s.d s.d s.d D ≡ parity_p s.d D
      all_there D = unfold there_p in parity_p_ext s.d (without s.d s.d D) D (λ i p. without_other s.d s.d D i (λ e. omega arith) (λ e. omega arith))

      alone : added (there_p o.d s.d s.d) o z ≡ gathered (there_p o.d s.d s.d) o
      alone =
          unfold plus by_column in
          gen_ext o.b _ _
          (λ j q. ap (λ (v : ℕ). bit_xor v (there_p o.d s.d s.d (column_at (numbered o.numbers.now) o.b (buffer o) j))) (hz j (omega (arith, is.b_is))) ∙ xor_zero_l _)

  pub q_put : 2 ≤ s.parities → (w n : List ℕ) → w ≡ gathered (standing_q o.d s.d s.d) o → n ≡ put s.b (s.d + 1) w l → n ≡ replaced_in s (s.d + 1) (parity_q s.d) l
  q_put two w n =
      gathered_put (λ (d : ℕ). standing_q d s.d s.d) (parity_q s.d) all_there (λ D E e. parity_q_ext s.d D E (λ i p. e i (omega arith))) (s.d + 1) w n (omega arith)
    where
      all_there : (D : ℕ → ℕ) → standing_q s.d s.d s.d D ≡ parity_q s.d D
      all_there D = unfold standing_q in
          parity_q_ext s.d (stand_in s.d s.d s.d D) D
          (λ i p. stand_in_plain s.d s.d s.d D i (inl refl) p ∙ without_other s.d s.d D i (λ e. omega arith) (λ e. omega arith))

  -- w is block x: with block y added it is the sum of x and y, copied to y
  pub other_put : (x y : ℕ) (w u n : List ℕ) → x < s.d → y < s.d → ((j : ℕ) → j < s.b → get_or w j 0 ≡ get_or l (x * s.b + j) 0) → u ≡ added (at_role y) o w → n ≡ put s.b y u l
      → n ≡ replaced_in s y (sum_of x y) l
  other_put x y w u n hx hy cell eu =
      gathered_put (λ (d : ℕ). sum_of x y) (sum_of x y) (λ D. refl) (λ D E e. unfold sum_of in ap₂ bit_xor (e x (omega arith)) (e y (omega arith))) y u n (omega arith) (eu ∙ both)
    where
      both : added (at_role y) o w ≡ gathered (sum_of x y) o
      both =
          unfold plus by_column sum_of in
          gen_ext o.b _ _
          (λ j q. ap (λ (v : ℕ). bit_xor v (column_at (numbered o.numbers.now) o.b (buffer o) j y)) (cell j (omega (arith, is.b_is)) ∙ sym (own_byte x j (omega arith))))

-- a block put in is read there
pub put_read : (s : Shape) (x : ℕ) (w l m : List ℕ) → x < s.d → Workable s l w → m ≡ put s.b x w l → (j : ℕ) → j < s.b → get_or w j 0 ≡ get_or m (x * s.b + j) 0
put_read s x w l m hx ok em j q =
    sym (get_or-put_in s.b x l (fits x (s.d + s.parities) s.b l ok.whole (omega arith)) w ok.working j q) ∙ ap (λ (z : List ℕ). get_or z (x * s.b + j) 0) (sym em)

-- two steps in a row
pub in_a_row : (f g : (ℕ → ℕ) → ℕ → ℕ) (r b : ℕ) (l m n : List ℕ) → m ≡ each_column f r b l → n ≡ each_column g r b m → n ≡ each_column g r b (each_column f r b l)
in_a_row f g r b l m n em en = en ∙ ap (each_column g r b) em

-- x as the sum of what is missing, where it comes from P
pub data_from_p : (d r b x y : ℕ) (l n : List ℕ) → (x ≡ y) ⊎ (d < y) → n ≡ each_column (replaced x (rest_p d x x)) r b l → n ≡ each_column (replaced x (solved d x y)) r b l
unfolding replaced
data_from_p d r b x y l n way e =
    e ∙ changed_ext (replaced x (rest_p d x x)) (replaced x (solved d x y)) r b l (λ j i p q. ap (λ (v : ℕ). pick (eqb i x) v (byte_of b l i j)) (by_p d x y (λ k. byte_of b l k j) way))

-- the stripe after the step of the data: two blocks of it missing, one, none
module _ (d k b x y : ℕ) (l : List ℕ) where
  pub data_two : (m n : List ℕ) → 2 ≤ k → d ≤ 16 → ((j : ℕ) → j < b → byte_of b l d j < 256) → x < d → y < d → x ≢ y
      → m ≡ each_column (replaced y (rest_p d x y)) (d + k) b l → n ≡ each_column (replaced y (sum_of x y)) (d + k) b (each_column (replaced x (of_sum d x y)) (d + k) b m)
      → n ≡ each_column (data_step d x y) (d + k) b l
  data_two m n two hd bytes hx hy ne em en =
      en ∙ ap (λ (z : List ℕ). each_column (replaced y (sum_of x y)) (d + k) b (each_column (replaced x (of_sum d x y)) (d + k) b z)) em
      ∙ ap (each_column (replaced y (sum_of x y)) (d + k) b) (changed_twice (replaced y (rest_p d x y)) (replaced x (of_sum d x y)) (d + k) b l (local_replaced (d + k) x (of_sum d x y) (of_sum_local d k x y two hx)))
      ∙ changed_twice (λ D. replaced x (of_sum d x y) (replaced y (rest_p d x y) D)) (replaced y (sum_of x y)) (d + k) b l
      (local_replaced (d + k) y (sum_of x y) (λ D E e. unfold sum_of in ap₂ bit_xor (e x (omega arith)) (e y (omega arith))))
      ∙ changed_ext (λ D. replaced y (sum_of x y) (replaced x (of_sum d x y) (replaced y (rest_p d x y) D))) (data_step d x y) (d + k) b l
      (λ j i q p. two_data d x y (λ m. byte_of b l m j) hd (bytes j q) hx hy ne i)

  pub data_one : (n : List ℕ) → x < d → (x ≡ y) ⊎ (d ≤ y) → n ≡ each_column (replaced x (solved d x y)) (d + k) b l → n ≡ each_column (data_step d x y) (d + k) b l
  data_one n hx alone en =
      en ∙ changed_ext (replaced x (solved d x y)) (data_step d x y) (d + k) b l (λ j i q p. one_first d x y (λ m. byte_of b l m j) i hx alone)

  pub data_one_second : (n : List ℕ) → d ≤ x → y < d → n ≡ each_column (replaced y (solved d y x)) (d + k) b l → n ≡ each_column (data_step d x y) (d + k) b l
  data_one_second n hx hy en =
      en ∙ changed_ext (replaced y (solved d y x)) (data_step d x y) (d + k) b l (λ j i q p. one_second d x y (λ m. byte_of b l m j) i hx hy)

  pub data_none : length l ≡ (d + k) * b → d ≤ x → d ≤ y → l ≡ each_column (data_step d x y) (d + k) b l
  data_none len hx hy = unchanged (data_step d x y) (d + k) b l len (λ j i q p. none_data d x y (λ m. byte_of b l m j) i hx hy)

-- the stripe after the step of the parity: P and Q named, one of them, none
module _ (d k b x y : ℕ) (l : List ℕ) (most : k ≤ 2) (len : length l ≡ (d + k) * b) where
  pub parity_both : (n : List ℕ) → (eqb x d || eqb y d) ≡ true → (eqb x (d + 1) || eqb y (d + 1)) ≡ true → n ≡ parity_made in_order d k b l → n ≡ each_column (parity_step d x y) (d + k) b l
  parity_both n tp tq en =
      en ∙ made_alone d k b l len ∙ changed_ext (made d) (parity_step d x y) (d + k) b l (λ j i q p. both_made d x y (λ m. byte_of b l m j) i (omega arith) tp tq)

  pub parity_p_lem : (n : List ℕ) → (eqb x d || eqb y d) ≡ true → (eqb x (d + 1) || eqb y (d + 1)) ≡ false → n ≡ each_column (replaced d (parity_p d)) (d + k) b l → n ≡ each_column (parity_step d x y) (d + k) b l
  parity_p_lem n tp tq en = en ∙ changed_ext (replaced d (parity_p d)) (parity_step d x y) (d + k) b l (λ j i q p. p_made d x y (λ m. byte_of b l m j) i (omega arith) tp tq)

  pub parity_q_lem : (n : List ℕ) → (eqb x d || eqb y d) ≡ false → (eqb x (d + 1) || eqb y (d + 1)) ≡ true → n ≡ each_column (replaced (d + 1) (parity_q d)) (d + k) b l → n ≡ each_column (parity_step d x y) (d + k) b l
  parity_q_lem n tp tq en = en ∙ changed_ext (replaced (d + 1) (parity_q d)) (parity_step d x y) (d + k) b l (λ j i q p. q_made d x y (λ m. byte_of b l m j) i (omega arith) tp tq)

  pub parity-none : (eqb x d || eqb y d) ≡ false → (eqb x (d + 1) || eqb y (d + 1)) ≡ false → l ≡ each_column (parity_step d x y) (d + k) b l
  parity-none tp tq = unchanged (parity_step d x y) (d + k) b l len (λ j i q p. none_made d x y (λ m. byte_of b l m j) i (omega arith) tp tq)

-- the stripe after both steps
pub after_steps : (d k b x y : ℕ) (l m n : List ℕ) → m ≡ each_column (data_step d x y) (d + k) b l → n ≡ each_column (parity_step d x y) (d + k) b m → n ≡ each_column (recovered d x y) (d + k) b l
after_steps d k b x y l m n em en =
    en ∙ ap (each_column (parity_step d x y) (d + k) b) em ∙ changed_twice (data_step d x y) (parity_step d x y) (d + k) b l (parity_local d x y (d + k) (omega arith))
    ∙ changed_ext (λ D. parity_step d x y (data_step d x y D)) (recovered d x y) (d + k) b l (λ j i q p. steps_recover d x y (λ m. byte_of b l m j) i)
