-- One stripe of a write: the shelf logs it exactly where the book marks it, and logged or made afresh it keeps the agreement.
-- Assumes nothing.
use mathlib.Core.Bool.{Bool, true, false, not, ◌&&◌, ◌||◌}
use mathlib.Core.List.{List}
use Rattle.std.specs.Prelude.{Option, None as none, Some as some}
use Rattle.std.proofs.lemmas.Option.{same_Some}
use mathlib.Core.Path.{◌≡◌, refl, sym, ap, ap₂, ◌∙◌}
use Prim.Native.Nat.{ℕ, ◌+◌, ◌≤◌, ◌<◌}
use native.Mathlib.Decide.{dec_lt, ℕ_discrete}
use native.Mathlib.Omega.{arith}
use lib.Dec.{eqb, ltb, leb}
use borrow.Author.Tests.{lt-ltb, le-ltb, le-leb, lt-leb, eqb-true, leb-true}
use Rattle.shelf.specs.Counting.{choose, bit, count, any, lesser, set_at}
use Rattle.shelf.specs.State.{Log, State, is_some, listed, marks_in}
use Rattle.shelf.specs.Status.{array_failed, log_failed}
use Rattle.shelf.specs.Calls.{made, unlisted_written, unlisted_others, reconstructs, pre_read, records_for, places_for, logs, Appended, overwritten, ori_appended, cur_appended, logged, write_stripe}
use Rattle.shelf.specs.Book.{Book, unmarked_written, unmarked_others, marked, used_then, mark_stripe}
use Rattle.shelf.specs.declared.record.Geometry.{Geometry}
use Rattle.shelf.proofs.general.CountLaws.{set_at-same, set_at_other, set_row_here, set_row_other, count_ext, any_found, total_at, count_add}
use Rattle.shelf.proofs.general.TestLaws.{cases, clash, and_left, and_right, or_true, choose_true, choose_false}
use Rattle.shelf.proofs.agreement.ListedLaws.{never_some, not_some, none_is, unlisted, marks_in_ext, marks-none}
use Rattle.shelf.proofs.agreement.Agreement.{AreBlocks, Nearly, Agrees, all_sound}
use Rattle.shelf.proofs.agreement.SettleLaws.{made_agrees}
use Rattle.shelf.proofs.agreement.AppendLaws.{append-next, append_old, append-kept, append-noted, append-below, append-value, append-some}

-- ---- the decision: what marking a stripe adds

bits_written : (m w : Bool) → bit (m || (w || false)) ≡ bit m + bit (w && not m)
unfolding bit
bits_written true true = refl
bits_written true false = refl
bits_written false true = refl
bits_written false false = refl

bits_all : (m w : Bool) → bit (m || (w || true)) ≡ bit m + bit (not m)
unfolding bit
bits_all true true = refl
bits_all true false = refl
bits_all false true = refl
bits_all false false = refl

bits_not : (m w : Bool) → bit (not m) ≡ bit (w && not m) + bit (not w && not m)
unfolding bit
bits_not true true = refl
bits_not true false = refl
bits_not false true = refl
bits_not false false = refl

-- the marks after: r where the others are marked too
pub count-marked : (d : ℕ) (w m : ℕ → Bool) (r : Bool)
    → count d (λ i. m i || (w i || r))
    ≡ count d m + choose r (count d (unlisted_written w m) + count d (unlisted_others w m)) (count d (unlisted_written w m))
unfolding choose
count-marked d w m false = count_add d (λ i. m i || (w i || false)) m (unlisted_written w m) (λ i. bits_written (m i) (w i))
count-marked d w m true =
    count_add d (λ i. m i || (w i || true)) m (λ i. not (m i)) (λ i. bits_all (m i) (w i))
    ∙ ap (λ (z : ℕ). count d m + z) (count_add d (λ i. not (m i)) (unlisted_written w m) (unlisted_others w m) (λ i. bits_not (m i) (w i)))

-- the lesser of x and y is how many are pre-read
lesser-choose : (x y : ℕ) → choose (ltb y x) y x ≡ lesser x y
unfolding choose lesser
lesser-choose x y =
    elim (dec_lt y x) [
      | yes h ↦ ap (λ (t : Bool). choose t y x) (lt-ltb y x h) ∙ sym (ap (λ (t : Bool). choose t x y) (lt-leb x y h))
      | no h ↦ ap (λ (t : Bool). choose t y x) (le-ltb y x (omega arith)) ∙ sym (ap (λ (t : Bool). choose t x y) (le-leb x y (omega arith)))
    ]

count-choose : (d : ℕ) (r : Bool) (f f' : ℕ → Bool) → count d (λ i. choose r (f i) (f' i)) ≡ choose r (count d f) (count d f')
unfolding choose
count-choose d true f f' = refl
count-choose d false f f' = refl

module _ (g : Geometry) (s : State) (b : Book) (A : Nearly g s b) (t : ℕ) (ht : t < g.s) (w : ℕ → Bool) where
  -- the stripe's listed blocks and its marks; all marks with those that the book would set
  abbrev l : ℕ → Bool
  l = listed s.log t

  abbrev m : ℕ → Bool
  m = b.state.marks t

  abbrev marks_then : ℕ → ℕ → Bool
  marks_then = set_at t (marked g w (b.state.marks t)) b.state.marks

  written_same : count g.d (unlisted_written w l) ≡ unmarked_written g w m
  written_same = count_ext g.d _ _ (λ i hi. ap (λ (z : Bool). w i && not z) (A.marks t i ht hi))

  others_same : count g.d (unlisted_others w l) ≡ unmarked_others g w m
  others_same = count_ext g.d _ _ (λ i hi. ap (λ (z : Bool). not (w i) && not z) (A.marks t i ht hi))

  pub reconstructs-same : reconstructs g.d w l ≡ reconstructs g.d w m
  reconstructs-same = ap₂ (λ (x y : ℕ). ltb y x) written_same others_same

  pub records_same : s.log.next + records_for g.d w l ≡ used_then g b.state t w
  unfolding used_then
  records_same =
      let e : count g.d (pre_read g.d w l) ≡ lesser (unmarked_written g w m) (unmarked_others g w m) =
      count-choose g.d (reconstructs g.d w l) (unlisted_others w l) (unlisted_written w l)
      ∙ lesser-choose (count g.d (unlisted_written w l)) (count g.d (unlisted_others w l))
      ∙ ap₂ lesser written_same others_same in
      omega (arith, e, A.next)

  places_same : marks_in g (listed s.log) + places_for g.d w l ≡ marks_in g marks_then
  unfolding marked
  places_same =
      let e : marks_in g (listed s.log) ≡ marks_in g b.state.marks = marks_in_ext g (listed s.log) b.state.marks A.marks in
      let p : places_for g.d w l ≡ places_for g.d w m = ap₂ (λ (x y : ℕ). choose (ltb y x) (x + y) x) written_same others_same in
      let a =
      total_at g.s (λ x. count g.d (marks_then x)) (λ x. count g.d (b.state.marks x)) t ht
      (λ x _ h. ap (count g.d) (set_at_other t (marked g w m) b.state.marks x h)) in
      let c : count g.d (marks_then t) ≡ count g.d m + places_for g.d w m =
      ap (count g.d) (set_at-same t (marked g w m) b.state.marks) ∙ count-marked g.d w m (reconstructs g.d w m) in
      omega (arith, e, p, a, c)

  -- the shelf logs the stripe exactly where the book marks it
  pub logs-same : logs g s t w ≡ (eqb b.state.mode 1 && (leb (used_then g b.state t w) g.l && leb (marks_in g marks_then) g.e))
  logs-same =
      ap₂ ◌&&◌ (ap (λ (z : ℕ). eqb z 1) A.mode)
      (ap₂ ◌&&◌ (ap (λ (z : ℕ). leb z g.l) records_same) (ap (λ (z : ℕ). leb z g.e) places_same))

-- ---- one block of a logged stripe: o and c where it has an Ori and a Cur before, w where it is written, r where the stripe is reconstruct-written

abbrev pub pre : Bool → Bool → Bool → Bool → Bool
pre o c w r = choose r (not w && not (o || c)) (w && not (o || c))

pub listed_after : (o c w r : Bool) → ((o || pre o c w r) || (c || w)) ≡ ((o || c) || (w || r))
unfolding choose
listed_after true c w r = refl
listed_after false true true true = refl
listed_after false true true false = refl
listed_after false true false true = refl
listed_after false true false false = refl
listed_after false false true true = refl
listed_after false false true false = refl
listed_after false false false true = refl
listed_after false false false false = refl

-- after a read-modify-write, a listed block without Ori was listed without Ori before
pub was_listed : (o c w : Bool) → (o || pre o c w false) ≡ false → ((o || c) || (w || false)) ≡ true → (o ≡ false) × ((o || c) ≡ true)
unfolding choose
was_listed true c w e l = clash refl e
was_listed false true w e l = (refl, refl)
was_listed false false true e l = clash refl e
was_listed false false false e l = clash l refl

-- only unlisted blocks are pre-read
pre_unlisted : (l w r : Bool) → choose r (not w && not l) (w && not l) ≡ true → l ≡ false
unfolding choose
pre_unlisted true true true e = sym e
pre_unlisted true true false e = sym e
pre_unlisted true false true e = sym e
pre_unlisted true false false e = sym e
pre_unlisted false w r e = refl

marked-written : (m r w : Bool) → w ≡ true → (m || (w || r)) ≡ true
marked-written true r w e = refl
marked-written false r w e = ap (λ (z : Bool). z || r) e

-- ---- the log of a logged stripe

module _ (g : Geometry) (s : State) (t : ℕ) (w : ℕ → Bool) (v : ℕ → List ℕ) where
  -- the blocks that are pre-read; the log before the originals, and before the latest values
  abbrev pr : ℕ → Bool
  pr = pre_read g.d w (listed s.log t)

  abbrev before : Appended
  before = record { value = s.log.value; next = s.log.next; noted = s.log.ori t }

  abbrev between : Appended
  between = record { value = (ori_appended g s t w).value; next = (ori_appended g s t w).next; noted = s.log.cur t }

  ori_appended-next : (ori_appended g s t w).next ≡ s.log.next + count g.d pr
  ori_appended-next = append-next pr (s.disk t) before g.d

  pub cur_appended_next : (cur_appended g s t w v).next ≡ s.log.next + records_for g.d w (listed s.log t)
  cur_appended_next = omega (arith, append-next w v between g.d, ori_appended-next)

  -- a record of the originals, and one in use before, stay in use
  ori_appended-kept : (r : ℕ) → r < (ori_appended g s t w).next → (r < (cur_appended g s t w v).next) × ((cur_appended g s t w v).value r ≡ (ori_appended g s t w).value r)
  ori_appended-kept r h = (omega (arith, h, append-next w v between g.d), append_old w v between g.d r h)

  pub cur_appended_kept : (r : ℕ) → r < s.log.next → (r < (cur_appended g s t w v).next) × ((cur_appended g s t w v).value r ≡ s.log.value r)
  cur_appended_kept r h =
      let k = ori_appended-kept r (omega (arith, h, ori_appended-next)) in (k.0, k.1 ∙ append_old pr (s.disk t) before g.d r h)

  -- an Ori is a pre-read block's, or from before
  pub ori_cases : {P : Type 0} (i r : ℕ) → i < g.d → (ori_appended g s t w).noted i ≡ some r
      → (pr i ≡ true → (r < (cur_appended g s t w v).next) × ((cur_appended g s t w v).value r ≡ s.disk t i) → P) → (s.log.ori t i ≡ some r → P) → P
  ori_cases i r hi e new old =
      cases (pr i)
      (λ y.
      let q : s.log.next + count i pr ≡ r = same_Some _ r (sym (append-noted pr (s.disk t) before g.d i hi y) ∙ e) in
      let k = ori_appended-kept (s.log.next + count i pr) (append-below pr (s.disk t) before g.d i hi y) in
      new y (
        omega (arith, k.0, q),
        ap (cur_appended g s t w v).value (sym q) ∙ k.1 ∙ append-value pr (s.disk t) before g.d i hi y,
      ))
      (λ y. old (sym (append-kept pr (s.disk t) before g.d i (λ _. y)) ∙ e))

  -- a Cur is a written block's, or from before
  pub cur_cases : {P : Type 0} (i r : ℕ) → i < g.d → (cur_appended g s t w v).noted i ≡ some r
      → (w i ≡ true → (r < (cur_appended g s t w v).next) × ((cur_appended g s t w v).value r ≡ v i) → P)
      → (w i ≡ false → s.log.cur t i ≡ some r → P) → P
  cur_cases i r hi e new old =
      cases (w i)
      (λ y.
      let q : (ori_appended g s t w).next + count i w ≡ r = same_Some _ r (sym (append-noted w v between g.d i hi y) ∙ e) in
      new y (
        omega (arith, append-below w v between g.d i hi y, q),
        ap (cur_appended g s t w v).value (sym q) ∙ append-value w v between g.d i hi y,
      ))
      (λ y. old y (sym (append-kept w v between g.d i (λ _. y)) ∙ e))

  -- a block without Cur is not written and had none before
  pub no_cur : (i : ℕ) → i < g.d → (cur_appended g s t w v).noted i ≡ none → (w i ≡ false) × (s.log.cur t i ≡ none)
  no_cur i hi e =
      cases (w i)
      (λ y. absurd (never_some (sym e ∙ append-noted w v between g.d i hi y)))
      (λ y. (y, sym (append-kept w v between g.d i (λ _. y)) ∙ e))

  -- which blocks have an Ori and a Cur after
  pub ori_after : (i : ℕ) → i < g.d → is_some ((ori_appended g s t w).noted i) ≡ (is_some (s.log.ori t i) || pr i)
  ori_after i hi = append-some pr (s.disk t) before g.d i hi

  pub cur_after : (i : ℕ) → i < g.d → is_some ((cur_appended g s t w v).noted i) ≡ (is_some (s.log.cur t i) || w i)
  cur_after i hi = append-some w v between g.d i hi

-- ---- one stripe written: held are the blocks that the book holds after it

module _ (g : Geometry) (s : State) (b : Book) (A : Agrees g s b) (ok : array_failed g s.failed ≡ false)
    (t : ℕ) (ht : t < g.s) (w : ℕ → Bool) (touched : any g.d w ≡ true) (v : ℕ → List ℕ) (held : ℕ → ℕ → List ℕ) (proper : AreBlocks g held)
    (here : (i : ℕ) → i < g.d → held t i ≡ choose (w i) (v i) (b.held t i))
    (there : (x : ℕ) → (x ≡ t → ⊥) → (i : ℕ) → held x i ≡ b.held x i) where
  abbrev N : Nearly g s b
  N = A.near

  -- the book's marks after it, where the stripe is logged
  abbrev then : ℕ → ℕ → Bool
  then = set_at t (marked g w (b.state.marks t)) b.state.marks

  row-held : (i : ℕ) → i < g.d → overwritten w v (s.disk t) i ≡ held t i
  row-held i hi = ap (λ (z : List ℕ). choose (w i) (v i) z) (all_sound N ok t i ht hi) ∙ sym (here i hi)

  logged_agrees : s.mode ≡ 1 → used_then g b.state t w ≤ g.l → marks_in g then ≤ g.e
      → Agrees g (logged g s t w v)
      (record { held = held; failed = b.failed; state = record { marks = then; used = used_then g b.state t w; mode = b.state.mode } })
  unfolding logged
  logged_agrees m1 le-records le-places =
      record {
        near =
            record {
              mode = N.mode;
              next = next;
              failed = N.failed;
              marks = marks;
              sound = λ x i hx hi _.
                  elim (ℕ_discrete x t) [
                    | yes e ↦ set_row_here t (overwritten w v (s.disk t)) s.disk x i e ∙ row-held i hi ∙ ap (λ (z : ℕ). held z i) (sym e)
                    | no e ↦ set_row_other t (overwritten w v (s.disk t)) s.disk x i e ∙ all_sound N ok x i hx hi ∙ sym (there x e i)
                  ];
              helds = proper;
              orig = N.orig;
              origs = N.origs;
              noted =
                  record {
                    plain = plain;
                    oris = λ x i hx hi r e. let a = oris x i hx hi r e in (a.0, λ _. a.1);
                    curs = λ x i hx hi r e. let a = curs x i hx hi r e in (a.0, λ _. a.1);
                  };
              parity = N.parity;
              whole = whole;
              few = N.few;
              one = N.one;
            };
        valid =
            record {
              room = omega (arith, next, le-records);
              fits = omega (arith, le-places, marks_in_ext g (listed after) then marks);
              modes = A.valid.modes;
              zero = λ e. absurd (omega (arith, m1));
              top = A.valid.top;
            };
        idle = λ z.
            let f = any_found g.d w touched in
            clash (listed_here f.0 f.1 ∙ marked-written (l f.0) rc (w f.0) f.2) (marks-none g (listed after) z t f.0 ht f.1);
      }
    where
      l : ℕ → Bool
      l = listed s.log t

      rc : Bool
      rc = reconstructs g.d w (listed s.log t)

      O : Appended
      O = ori_appended g s t w

      C : Appended
      C = cur_appended g s t w v

      after : Log
      after = record { value = C.value; next = C.next; ori = set_at t O.noted s.log.ori; cur = set_at t C.noted s.log.cur }

      next : C.next ≡ used_then g b.state t w
      next = cur_appended_next g s t w v ∙ records_same g s b N t ht w

      sound-log : log_failed g s.failed ≡ false
      sound-log = N.one m1

      -- the original of a pre-read block is on its disk
      pre_read_lem : (i : ℕ) → i < g.d → pre_read g.d w (listed s.log t) i ≡ true → s.disk t i ≡ N.orig t i
      pre_read_lem i hi e =
          let u : l i ≡ false = pre_unlisted (l i) (w i) rc e in
          all_sound N ok t i ht hi ∙ sym (N.noted.plain t i ht hi (unlisted s.log t i u).1)

      -- a block that is not written
      kept : (i : ℕ) → i < g.d → w i ≡ false → b.held t i ≡ held t i
      kept i hi e = sym (choose_false (w i) (v i) (b.held t i) e) ∙ sym (here i hi)

      -- a record from before
      old : (r : ℕ) (u : List ℕ) → (r < s.log.next) × (log_failed g s.failed ≡ false → s.log.value r ≡ u) → (r < C.next) × (C.value r ≡ u)
      old r u a = let k = cur_appended_kept g s t w v r a.0 in (k.0, k.1 ∙ a.1 sound-log)

      plain : (x i : ℕ) → x < g.s → i < g.d → after.cur x i ≡ none → N.orig x i ≡ held x i
      plain x i hx hi e =
          elim (ℕ_discrete x t) [
            | yes h ↦
                let c = no_cur g s t w v i hi (sym (set_row_here t C.noted s.log.cur x i h) ∙ e) in
                ap (λ (z : ℕ). N.orig z i) h ∙ N.noted.plain t i ht hi c.1 ∙ kept i hi c.0 ∙ ap (λ (z : ℕ). held z i) (sym h)
            | no h ↦ N.noted.plain x i hx hi (sym (set_row_other t C.noted s.log.cur x i h) ∙ e) ∙ sym (there x h i)
          ]

      oris : (x i : ℕ) → x < g.s → i < g.d → (r : ℕ) → after.ori x i ≡ some r → (r < C.next) × (C.value r ≡ N.orig x i)
      oris x i hx hi r e =
          elim (ℕ_discrete x t) [
            | yes h ↦
                rw h
                (ori_cases g s t w v i r hi (sym (set_row_here t O.noted s.log.ori x i h) ∙ e)
                (λ y a. (a.0, a.1 ∙ pre_read_lem i hi y))
                (λ o. old r (N.orig t i) (N.noted.oris t i ht hi r o)))
            | no h ↦ old r (N.orig x i) (N.noted.oris x i hx hi r (sym (set_row_other t O.noted s.log.ori x i h) ∙ e))
          ]

      curs : (x i : ℕ) → x < g.s → i < g.d → (r : ℕ) → after.cur x i ≡ some r → (r < C.next) × (C.value r ≡ held x i)
      curs x i hx hi r e =
          elim (ℕ_discrete x t) [
            | yes h ↦
                rw h
                (cur_cases g s t w v i r hi (sym (set_row_here t C.noted s.log.cur x i h) ∙ e)
                (λ y a. (a.0, a.1 ∙ sym (here i hi ∙ choose_true (w i) (v i) (b.held t i) y)))
                (λ y o. let a = old r (b.held t i) (N.noted.curs t i ht hi r o) in (a.0, a.1 ∙ kept i hi y)))
            | no h ↦
                let a = old r (b.held x i) (N.noted.curs x i hx hi r (sym (set_row_other t C.noted s.log.cur x i h) ∙ e)) in
                (a.0, a.1 ∙ sym (there x h i))
          ]

      -- what is listed after
      ori-here : (i : ℕ) → after.ori t i ≡ O.noted i
      ori-here i = set_row_here t O.noted s.log.ori t i refl

      cur-here : (i : ℕ) → after.cur t i ≡ C.noted i
      cur-here i = set_row_here t C.noted s.log.cur t i refl

      listed_here : (i : ℕ) → i < g.d → listed after t i ≡ (l i || (w i || rc))
      listed_here i hi =
          ap₂ ◌||◌ (ap is_some (ori-here i) ∙ ori_after g s t w v i hi) (ap is_some (cur-here i) ∙ cur_after g s t w v i hi)
          ∙ listed_after (is_some (s.log.ori t i)) (is_some (s.log.cur t i)) (w i) rc

      listed_there : (x i : ℕ) → (x ≡ t → ⊥) → listed after x i ≡ listed s.log x i
      listed_there x i e =
          ap₂ (λ (o c : Option ℕ). is_some o || is_some c) (set_row_other t O.noted s.log.ori x i e)
          (set_row_other t C.noted s.log.cur x i e)

      marked-is : (i : ℕ) → (b.state.marks t i || (w i || reconstructs g.d w (b.state.marks t))) ≡ marked g w (b.state.marks t) i
      marked-is i = unfold marked in refl

      marks : (x i : ℕ) → x < g.s → i < g.d → listed after x i ≡ then x i
      marks x i hx hi =
          elim (ℕ_discrete x t) [
            | yes e ↦
                ap (λ (z : ℕ). listed after z i) e ∙ listed_here i hi
                ∙ ap₂ (λ (m z : Bool). m || (w i || z)) (N.marks t i ht hi) (reconstructs-same g s b N t ht w)
                ∙ marked-is i ∙ sym (set_row_here t (marked g w (b.state.marks t)) b.state.marks x i e)
            | no e ↦ listed_there x i e ∙ N.marks x i hx hi ∙ sym (set_row_other t (marked g w (b.state.marks t)) b.state.marks x i e)
          ]

      -- a reconstruction-write lists the stripe whole; in a read-modify-write a block without Ori was listed before
      whole_here : (i j : ℕ) → i < g.d → j < g.d → after.ori t i ≡ none → listed after t i ≡ true → listed after t j ≡ true
      whole_here i j hi hj o e =
          listed_here j hj
          ∙ cases rc
          (λ r. ap (λ (z : Bool). l j || (w j || z)) r ∙ ap (λ (z : Bool). l j || z) (or_true (w j)) ∙ or_true (l j))
          (λ r.
          let none-now : (is_some (s.log.ori t i) || pre (is_some (s.log.ori t i)) (is_some (s.log.cur t i)) (w i) false) ≡ false =
          ap (λ (z : Bool). is_some (s.log.ori t i) || pre (is_some (s.log.ori t i)) (is_some (s.log.cur t i)) (w i) z) (sym r)
          ∙ sym (ori_after g s t w v i hi) ∙ none_is (O.noted i) (sym (ori-here i) ∙ o) in
          let listed-now : (l i || (w i || false)) ≡ true = ap (λ (z : Bool). l i || (w i || z)) (sym r) ∙ sym (listed_here i hi) ∙ e in
          let was = was_listed (is_some (s.log.ori t i)) (is_some (s.log.cur t i)) (w i) none-now listed-now in
          ap (λ (z : Bool). z || (w j || rc)) (N.whole t i j ht hi hj (not_some (s.log.ori t i) was.0) was.1))

      whole : (x i j : ℕ) → x < g.s → i < g.d → j < g.d → after.ori x i ≡ none → listed after x i ≡ true → listed after x j ≡ true
      whole x i j hx hi hj o e =
          elim (ℕ_discrete x t) [
            | yes h ↦
                ap (λ (z : ℕ). listed after z j) h
                ∙ whole_here i j hi hj (ap (λ (z : ℕ). after.ori z i) (sym h) ∙ o) (ap (λ (z : ℕ). listed after z i) (sym h) ∙ e)
            | no h ↦
                listed_there x j h
                ∙ N.whole x i j hx hi hj (sym (set_row_other t O.noted s.log.ori x i h) ∙ o) (sym (listed_there x i h) ∙ e)
          ]

  pub stripe_agrees : Agrees g (write_stripe g s t w v) (record { held = held; failed = b.failed; state = mark_stripe g b.state t w })
  unfolding write_stripe mark_stripe
  stripe_agrees =
      cases (logs g s t w)
      (λ y.
      let y' = sym (logs-same g s b N t ht w) ∙ y in
      let fit = and_right (eqb b.state.mode 1) (leb (used_then g b.state t w) g.l && leb (marks_in g then) g.e) y' in
      rw (choose_true (logs g s t w) (logged g s t w v) (made g s t (overwritten w v (s.disk t))) y, choose_true _ _ _ y')
      (logged_agrees (eqb-true s.mode 1 (and_left (eqb s.mode 1) _ y))
      (leb-true _ _ (and_left (leb (used_then g b.state t w) g.l) (leb (marks_in g then) g.e) fit))
      (leb-true _ _ (and_right (leb (used_then g b.state t w) g.l) (leb (marks_in g then) g.e) fit))))
      (λ y.
      let y' = sym (logs-same g s b N t ht w) ∙ y in
      rw (choose_false (logs g s t w) (logged g s t w v) (made g s t (overwritten w v (s.disk t))) y, choose_false _ _ _ y')
      (made_agrees g s b N A.valid t (overwritten w v (s.disk t)) held proper row-held there))
