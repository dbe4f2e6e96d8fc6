-- What is laid out as bytes is read back as it was, and what is read is laid out as it was: the array, the log and the flags of the members.
-- Assumes nothing.
use mathlib.Core.Bool.{Bool, false}
use mathlib.Core.List.{List, ◌++◌}
use mathlib.Core.Path.{◌≡◌, refl, sym, ap, ap₂, ◌∙◌, subst}
use Prim.Native.Nat.{ℕ, zero, suc, ◌+◌, ◌-◌, ◌*◌, ◌/◌, ◌%◌, ◌<◌}
use native.Mathlib.Decide.{dec_lt}
use native.Mathlib.Nat.{mul-add-div_right, mul-add-mod_self_right, div-eq_of_lt, mod-eq_of_lt, mod-lt, div-add-mod', div-lt_iff_lt-mul}
use native.Mathlib.Omega.{arith}
use lib.Dec.{eqb, ltb}
use lib.ListN.{length, get_or}
use lib.Seq.{ext_get_or}
use borrow.Author.Tests.{lt-ltb, le-ltb, eq-eqb, eqb-true}
use Rattle.stripe.specs.Blocks.{gen, block, byte_of, blocks_of}
use Rattle.stripe.specs.Places.{place, member_of}
use Rattle.stripe.proofs.Laws.{one_to_one, place_lt, fits, length-block, get_or-block, ext_block, length-blocks_of, byte_of-blocks_of}
use Rattle.shelf.specs.Counting.{first}
use Rattle.shelf.specs.Members.{member_at}
use Rattle.shelf.specs.State.{State}
use Rattle.shelf.specs.Lent.{array_block, array_length, log_length, role_of, role_block, array_of, log_of, flags_from, flags_of}
use Rattle.shelf.specs.declared.record.Geometry.{Geometry}
use Rattle.shelf.proofs.general.CountLaws.{any_some, first_found}
use Rattle.shelf.proofs.general.TestLaws.{choose_true, choose_false}

-- ---- blocks of bytes by blocks

-- block n of a buffer of N blocks, each given as a list of b bytes
pub block-blocks_of : (N b : ℕ) (f : ℕ → List ℕ) (n : ℕ) → n < N → length (f n) ≡ b → block b n (blocks_of N b (λ i j. get_or (f i) j 0)) ≡ f n
unfolding byte_of
block-blocks_of N b f n h e =
    let whole = length-blocks_of N b (λ i j. get_or (f i) j 0) in
    let room = fits n N b (blocks_of N b (λ i j. get_or (f i) j 0)) whole h in
    let len = length-block b n (blocks_of N b (λ i j. get_or (f i) j 0)) room in
    ext_get_or 0 (block b n (blocks_of N b (λ i j. get_or (f i) j 0))) (f n) (len ∙ sym e)
    (λ j p. let q : j < b = omega (arith, len) in
    get_or-block b n (blocks_of N b (λ i j. get_or (f i) j 0)) j q ∙ byte_of-blocks_of N b (λ i j. get_or (f i) j 0) n j h q)

-- a buffer of N blocks is its blocks
pub blocks_of-back : (N b : ℕ) (f : ℕ → List ℕ) (l : List ℕ) → length l ≡ N * b → ((n : ℕ) → n < N → f n ≡ block b n l) → l ≡ blocks_of N b (λ i j. get_or (f i) j 0)
blocks_of-back N b f l e same =
    ext_block b N l (blocks_of N b (λ i j. get_or (f i) j 0)) e (length-blocks_of N b (λ i j. get_or (f i) j 0))
    (λ n h. sym (same n h) ∙ sym (block-blocks_of N b f n h (ap length (same n h) ∙ length-block b n l (fits n N b l e h))))

-- of blocks that are the same
pub blocks_of-same : (N b : ℕ) (u f : ℕ → List ℕ) → ((n : ℕ) → n < N → u n ≡ f n)
    → blocks_of N b (λ i j. get_or (u i) j 0) ≡ blocks_of N b (λ i j. get_or (f i) j 0)
unfolding blocks_of
blocks_of-same zero b u f same = refl
blocks_of-same (suc N) b u f same =
    ap₂ ◌++◌ (blocks_of-same N b u f (λ n h. same n (omega arith))) (ap (λ (v : List ℕ). gen b (λ j. get_or v j 0)) (same N (omega arith)))

-- ---- the array

-- the role of the member that has role i
pub role_back : (g : Geometry) (x i : ℕ) → i < g.d + g.parities → role_of g x (member_at g x i) ≡ i
unfolding role_of
role_back g x i h =
    let f = first_found (g.d + g.parities) (λ k. eqb (member_at g x k) (member_at g x i)) (any_some (g.d + g.parities) (λ k. eqb (member_at g x k) (member_at g x i)) i h (eq-eqb (member_at g x i) (member_at g x i) refl)) in
    (one_to_one g.layout g.d g.parities x).own (first (g.d + g.parities) (λ k. eqb (member_at g x k) (member_at g x i))) i f.0 h (eqb-true (member_at g x (first (g.d + g.parities) (λ k. eqb (member_at g x k) (member_at g x i)))) (member_at g x i) f.1)

role_there : (g : Geometry) (x m : ℕ) → m < g.d + g.parities → (role_of g x m < g.d + g.parities) × (member_at g x (role_of g x m) ≡ m)
role_there g x m h =
    let o = (one_to_one g.layout g.d g.parities x).onto m h in
    let e : role_of g x m ≡ o.0 = ap (role_of g x) (sym o.2) ∙ role_back g x o.0 o.1 in
    (subst (λ (k : ℕ). k < g.d + g.parities) (sym e) o.1, ap (member_at g x) e ∙ o.2)

-- the member and the stripe of a block number
number_member : (S m x : ℕ) → x < S → (m * S + x) / S ≡ m
number_member S m x h = mul-add-div_right (omega arith) m x ∙ (let q : x / S ≡ 0 = div-eq_of_lt h in omega arith)

number_stripe : (S m x : ℕ) → x < S → (m * S + x) % S ≡ x
number_stripe S m x h = mul-add-mod_self_right m S x ∙ mod-eq_of_lt h

pub array-length : (g : Geometry) (s : State) → length (array_of g s) ≡ array_length g
unfolding array_of
array-length g s = length-blocks_of ((g.d + g.parities) * g.s) g.b (λ n j. get_or (role_block g s (n % g.s) (role_of g (n % g.s) (n / g.s))) j 0)

-- a state's block, read where it was laid out
pub array_back : (g : Geometry) (s : State) (x i : ℕ) → x < g.s → i < g.d + g.parities → length (role_block g s x i) ≡ g.b → array_block g (array_of g s) x i ≡ role_block g s x i
unfolding array_of place
array_back g s x i hx hi e =
    let f : ℕ → List ℕ = λ n. role_block g s (n % g.s) (role_of g (n % g.s) (n / g.s)) in
    let n : ℕ = member_of g.layout g.d g.parities x i * g.s + x in
    let q : role_block g s (n % g.s) (role_of g (n % g.s) (n / g.s)) ≡ role_block g s x i =
    ap₂ (λ (y m : ℕ). role_block g s y (role_of g y m)) (number_stripe g.s (member_of g.layout g.d g.parities x i) x hx) (number_member g.s (member_of g.layout g.d g.parities x i) x hx)
    ∙ ap (role_block g s x) (role_back g x i hi) in
    block-blocks_of ((g.d + g.parities) * g.s) g.b (λ k. role_block g s (k % g.s) (role_of g (k % g.s) (k / g.s))) (member_of g.layout g.d g.parities x i * g.s + x)
    (unfold place in place_lt g.layout g.d g.parities g.s x i hx hi) (ap length q ∙ e) ∙ q

-- an array whose blocks are a state's is what the state is laid out as
pub array-is : (g : Geometry) (s : State) (a : List ℕ) → 0 < g.s → length a ≡ array_length g
    → ((x i : ℕ) → x < g.s → i < g.d + g.parities → role_block g s x i ≡ array_block g a x i) → a ≡ array_of g s
unfolding array_of place
array-is g s a pos e same =
    blocks_of-back ((g.d + g.parities) * g.s) g.b (λ n. role_block g s (n % g.s) (role_of g (n % g.s) (n / g.s))) a e
    (λ n h.
    let hm : n / g.s < g.d + g.parities = (div-lt_iff_lt-mul pos).1 h in
    let r = role_there g (n % g.s) (n / g.s) hm in
    same (n % g.s) (role_of g (n % g.s) (n / g.s)) (mod-lt n pos) r.0
    ∙ ap (λ (k : ℕ). block g.b k a) (ap (λ (m : ℕ). m * g.s + n % g.s) r.1 ∙ div-add-mod' n g.s))

-- ---- a stripe's roles

pub role_data : (g : Geometry) (s : State) (x i : ℕ) → i < g.d → role_block g s x i ≡ s.disk x i
role_data g s x i h = choose_true (ltb i g.d) (s.disk x i) (s.parity x (i - g.d)) (lt-ltb i g.d h)

pub role_parity : (g : Geometry) (s : State) (x p : ℕ) → role_block g s x (g.d + p) ≡ s.parity x p
role_parity g s x p =
    choose_false (ltb (g.d + p) g.d) (s.disk x (g.d + p)) (s.parity x (g.d + p - g.d)) (le-ltb (g.d + p) g.d (omega arith))
    ∙ ap (s.parity x) (let z : g.d + p - g.d ≡ p = omega arith in z)

-- role by role: data, and the parities
pub by_role : (g : Geometry) (P : ℕ → Type 0) → ((i : ℕ) → i < g.d → P i) → ((p : ℕ) → p < g.parities → P (g.d + p)) → (i : ℕ) → i < g.d + g.parities → P i
by_role g P data-case parity-case i h =
    elim (dec_lt i g.d) [ yes l ↦ data-case i l | no l ↦ (let e : g.d + (i - g.d) ≡ i = omega arith in subst P e (parity-case (i - g.d) (omega arith))) ]

-- ---- the log

pub log-length : (g : Geometry) (s : State) → length (log_of g s) ≡ log_length g
unfolding log_of
log-length g s = length-blocks_of g.l g.b (λ r j. get_or (s.log.value r) j 0)

pub log_back : (g : Geometry) (s : State) (r : ℕ) → r < g.l → length (s.log.value r) ≡ g.b → block g.b r (log_of g s) ≡ s.log.value r
unfolding log_of
log_back g s r h e = block-blocks_of g.l g.b s.log.value r h e

pub log_is : (g : Geometry) (s : State) (l : List ℕ) → length l ≡ log_length g → ((r : ℕ) → r < g.l → s.log.value r ≡ block g.b r l) → l ≡ log_of g s
unfolding log_of
log_is g s l e same = blocks_of-back g.l g.b s.log.value l e same

-- ---- the flags

length-flags_from : (n i : ℕ) (f : ℕ → Bool) → length (flags_from i n f) ≡ n
unfolding flags_from
length-flags_from zero i f = refl
length-flags_from (suc n) i f = ap suc (length-flags_from n (suc i) f)

get_or-flags_from : (n i : ℕ) (f : ℕ → Bool) (j : ℕ) → j < n → get_or (flags_from i n f) j false ≡ f (i + j)
unfolding flags_from
get_or-flags_from zero i f j h = absurd (omega arith)
get_or-flags_from (suc n) i f zero h = let q : i ≡ i + 0 = omega arith in ap f q
get_or-flags_from (suc n) i f (suc j) h = let q : suc i + j ≡ i + suc j = omega arith in get_or-flags_from n (suc i) f j (omega arith) ∙ ap f q

pub flags-length : (f : ℕ → Bool) → length (flags_of f) ≡ 19
flags-length f = length-flags_from 19 0 f

pub flag-back : (f : ℕ → Bool) (i : ℕ) → i < 19 → get_or (flags_of f) i false ≡ f i
flag-back f i h = let q : 0 + i ≡ i = omega arith in get_or-flags_from 19 0 f i h ∙ ap f q

pub flags_are : (f : ℕ → Bool) (l : List Bool) → length l ≡ 19 → ((i : ℕ) → i < 19 → get_or l i false ≡ f i) → l ≡ flags_of f
flags_are f l e same = ext_get_or false l (flags_of f) (e ∙ sym (flags-length f)) (λ i h. let q : i < 19 = omega (arith, e) in same i q ∙ sym (flag-back f i q))
