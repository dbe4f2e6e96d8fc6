-- What the functions that alter a list promise: entries dropped and put in, and how they are moved in the list's own places.
-- Assumes nothing.
use Rattle.std.specs.Prelude.{ℕ, zero, suc, ◌+◌, ◌*◌, ◌-◌, ◌/◌, ◌%◌, ◌≤◌, ◌<◌, ◌≡◌, Bool, true, false, List, [], ◌∷◌, ◌++◌, ◌⊎◌, ◌≢◌, ltb, eqb, length, get_or, set, take, drop}
use Rattle.std.specs.Prelude.{Option, None, Some}
use Rattle.shelf.specs.declared.record.Geometry.{Geometry}
use Rattle.shelf.specs.Counting.{choose}
use Rattle.shelf.specs.Words.{words, bytes_of}
use Rattle.shelf.specs.HashList.{none_word, address_at, next_at, Entry, entry, entry_in, entries, encode}

-- ---- entries dropped and put in

-- the entries but those of the stripes that pass the test; and but those of stripe k
unfoldable pub drop_stripes : ℕ → (ℕ → Bool) → List Entry → List Entry
drop_stripes d t [] = []
drop_stripes d t (x ∷ xs) = elim (t (x.address / d)) [ true ↦ drop_stripes d t xs | false ↦ x ∷ drop_stripes d t xs ]

abbrev pub drop_stripe : ℕ → ℕ → List Entry → List Entry
drop_stripe d k es = drop_stripes d (λ x. eqb x k) es

-- the entry y in its place among rising entries
unfoldable pub insert_e : Entry → List Entry → List Entry
insert_e y [] = y ∷ []
insert_e y (x ∷ xs) = elim (ltb x.address y.address) [ true ↦ x ∷ insert_e y xs | false ↦ y ∷ x ∷ xs ]

-- the bytes l are the list of the entries es, n in number
abbrev pub Rewritten : Geometry → List Entry → List ℕ → ℕ → Type 0
Rewritten g es l n = (l ≡ bytes_of (encode g es)) × ((words l ≡ encode g es) × (n ≡ length es))

-- ---- new entries put among others

-- the entries ys put among rising entries
unfoldable pub merged : List Entry → List Entry → List Entry
merged [] es = es
merged (y ∷ ys) es = insert_e y (merged ys es)

-- entry i of some
abbrev pub nth : List Entry → ℕ → Entry
nth ys i = get_or ys i (entry 0 0 0)

-- the entries ys are of stripe k, and rising
pub record Segment (d k : ℕ) (ys : List Entry) : Type 0 where
  pub stripe : (j : ℕ) → j < length ys → (nth ys j).address / d ≡ k
  pub up : (i j : ℕ) → i < j → j < length ys → (nth ys i).address < (nth ys j).address

-- the entries ys may take the place of stripe k's in the list w: they are of stripe k and rising, and the list has places for them
pub record Replaces (g : Geometry) (k : ℕ) (w : List ℕ) (ys : List Entry) : Type 0 where
  pub there : k < g.s
  pub room : length (drop_stripe g.d k (entries w g)) + length ys ≤ g.e
  pub segment : Segment g.d k ys

-- n entries of a table, from entry i on
unfoldable pub table : ℕ → ℕ → (ℕ → Entry) → List Entry
table zero i f = []
table (suc n) i f = f i ∷ table n (i + 1) f

-- ---- as the code does it, in the list's own places

-- what n places of the list hold, from place p on
abbrev pub placed : ℕ → List ℕ → ℕ → ℕ → List Entry
placed n w h p = table n p (entry_in w h)

-- the words w with the three words of the entry x from word b on
abbrev pub put_entry : List ℕ → ℕ → Entry → List ℕ
put_entry w b x = set (set (set w b x.address) (b + 1) x.ori) (b + 2) x.cur

-- the words v are the words w with none for those from i on, below k
pub record Blanked (i k : ℕ) (w v : List ℕ) : Type 0 where
  pub long : length v ≡ length w
  pub inside : (j : ℕ) → i ≤ j → j < k → get_or v j 0 ≡ none_word
  pub below : (j : ℕ) → j < i → get_or v j 0 ≡ get_or w j 0
  pub above : (j : ℕ) → k ≤ j → get_or v j 0 ≡ get_or w j 0

-- from word i on the words v are the words w
abbrev pub KeptFrom : ℕ → List ℕ → List ℕ → Type 0
KeptFrom i w v = (j : ℕ) → i ≤ j → get_or v j 0 ≡ get_or w j 0

-- the slot heads and the Next words of v are those of w
pub record LinksKept (h : ℕ) (w v : List ℕ) : Type 0 where
  pub heads : (s : ℕ) → s < h → get_or v s 0 ≡ get_or w s 0
  pub nexts : (q : ℕ) → next_at v h q ≡ next_at w h q

-- of n listed places those from p on, as many as ys, have the addresses of the entries ys, and the one behind them has an address from b on
pub record InPlace (h n b p : ℕ) (w : List ℕ) (ys : List Entry) : Type 0 where
  pub within : p + length ys ≤ n
  pub behind : p + length ys < n → b ≤ address_at w h (p + length ys)
  pub here : (j : ℕ) → j < length ys → address_at w h (p + j) ≡ (nth ys j).address

-- of e places behind h slot heads, all words of those neither among the first m nor among the first n are none
abbrev pub NoneBehind : ℕ → ℕ → ℕ → ℕ → List ℕ → Type 0
NoneBehind h e m n w = (j : ℕ) → h + 4 * m ≤ j → h + 4 * n ≤ j → j < h + 4 * e → get_or w j 0 ≡ none_word

-- none of the entries is of a stripe below k
abbrev pub NotBelow : ℕ → ℕ → List Entry → Type 0
NotBelow d k [] = Unit {0}
NotBelow d k (x ∷ xs) = (k ≤ x.address / d) × NotBelow d k xs

-- the table u is t with c places free from place i on: what stands below them and what stands behind them, of no stripe below k, are the first
-- n of t
pub record Opening (d k c n : ℕ) (t u : List Entry) (i : ℕ) : Type 0 where
  pub within : i ≤ n
  pub parts : take i u ++ take (n - i) (drop (i + c) u) ≡ take n t
  pub higher : NotBelow d k (take (n - i) (drop (i + c) u))

-- and the last that stands below them is of a stripe below k
pub record Opened (d k c n : ℕ) (t u : List Entry) (i : ℕ) : Type 0 where
  pub opening : Opening d k c n t u i
  pub lower : 0 < i → (get_or u (i - 1) (entry 0 0 0)).address / d < k

-- the table u is t with the first j of the entries ys from place i on
pub record Filled (i j : ℕ) (t u ys : List Entry) : Type 0 where
  pub front : take (i + j) u ≡ take i t ++ take j ys
  pub back : (c : ℕ) → j ≤ c → drop (i + c) u ≡ drop (i + c) t

-- ---- links: what slot heads and Next words say, over places of which f tells the slot

-- y is the first place of slot s among those from a on, below n, where the places from p on, below t, do not count; or none
pub record Leads (f : ℕ → ℕ) (s a n p t y : ℕ) : Type 0 where
  pub before : (q : ℕ) → a ≤ q → q < n → q < y → (p ≤ q → t ≤ q) → f q ≢ s
  pub here : (y ≡ none_word) ⊎ ((a ≤ y) × ((y < n) × ((f y ≡ s) × (p ≤ y → t ≤ y))))

-- the slot heads of w, and the Next words of the n places that count, lead so
pub record Chained (f : ℕ → ℕ) (h n p t : ℕ) (w : List ℕ) : Type 0 where
  pub heads : (s : ℕ) → s < h → Leads f s 0 n p t (get_or w s 0)
  pub nexts : (q : ℕ) → q < n → (p ≤ q → t ≤ q) → Leads f (f q) (q + 1) n p t (next_at w h q)

-- where place q stood before those from p on, below t, were taken out
abbrev pub skip : ℕ → ℕ → ℕ → ℕ
skip p t q = choose (ltb q p) q (q + (t - p))

-- the entries of n places but for those from p on, below t
abbrev pub without : ℕ → ℕ → ℕ → ℕ → List ℕ → List Entry
without h p t n w = table (n - (t - p)) 0 (λ q. entry_in w h (skip p t q))

-- l bytes hold h slot heads and t places, of which those from p on are meant
abbrev pub Gap : ℕ → ℕ → ℕ → ℕ → Type 0
Gap h p t l = (p ≤ t) × ((t ≤ 4096) × ((h ≤ 256) × (4 * (h + 4 * t) ≤ l)))

-- the links of the places from p on, below t, lead upwards
pub record Upward (next : ℕ → ℕ) (p t : ℕ) : Type 0 where
  pub up : (q : ℕ) → p ≤ q → q < t → q < next q

-- the link r is the link y, of the slot heads or of a place below p, where the places from p on, below t, are taken out of a list that has
-- these links
pub record Lowers (next : ℕ → ℕ) (p t y r : ℕ) : Type 0 where
  pub leads : (f : ℕ → ℕ) (s a n : ℕ) → a ≤ p → t ≤ n → n ≤ 4096 → ((q : ℕ) → p ≤ q → q < t → Leads f (f q) (q + 1) n 0 0 (next q))
      → Leads f s a n 0 0 y → Leads (λ q. f (skip p t q)) s a (n - (t - p)) 0 0 r

-- the link of place q, in the words of the places from p on
abbrev pub next_behind : List ℕ → ℕ → ℕ → ℕ
next_behind w p q = next_at w 0 (q - p)

-- v is w with n links relabelled by R, which stand in each s-th word from word a on; all other words are those of w
pub record Relabelled (R : ℕ → ℕ → Type 0) (a s n : ℕ) (w v : List ℕ) : Type 0 where
  pub links : (k : ℕ) → k < n → R (get_or w (a + s * k) 0) (get_or v (a + s * k) 0)
  pub others : (j : ℕ) → ((k : ℕ) → k < n → j ≢ a + s * k) → get_or v j 0 ≡ get_or w j 0

-- v is w with its slot heads and the Next words of its first p places relabelled by R
pub record FrontRelabelled (R : ℕ → ℕ → Type 0) (h p : ℕ) (w v : List ℕ) : Type 0 where
  pub heads : (s : ℕ) → s < h → R (get_or w s 0) (get_or v s 0)
  pub nexts : (q : ℕ) → q < p → R (next_at w h q) (next_at v h q)
  pub entries : (q : ℕ) → entry_in v h q ≡ entry_in w h q
  pub rest : KeptFrom (h + 4 * p) w v

-- the link r is the link y lowered by k; none stays
pub record Down (k y r : ℕ) : Type 0 where
  pub none : y ≡ none_word → r ≡ none_word
  pub some : y ≢ none_word → r ≡ y - k

-- v is w with the entry x in place j, and y for its Next
pub record Put (h j : ℕ) (x : Entry) (y : ℕ) (w v : List ℕ) : Type 0 where
  pub entry : entry_in v h j ≡ x
  pub next : next_at v h j ≡ y
  pub below : (q : ℕ) → q < h + 4 * j → get_or v q 0 ≡ get_or w q 0
  pub rest : KeptFrom (h + 4 * (j + 1)) w v

-- v is w with the places from p on, below j, k places lower than they were, and their links too
pub record MovedDown (h p k j : ℕ) (w v : List ℕ) : Type 0 where
  pub entries : (q : ℕ) → p ≤ q → q < j → entry_in v h q ≡ entry_in w h (q + k)
  pub nexts : (q : ℕ) → p ≤ q → q < j → Down k (next_at w h (q + k)) (next_at v h q)
  pub below : (q : ℕ) → q < h + 4 * p → get_or v q 0 ≡ get_or w q 0
  pub rest : KeptFrom (h + 4 * j) w v

-- ---- places put in: the places from p on, of m, moved up by c

-- the link r is the link y where they are moved; none stays
pub record Up (p m c y r : ℕ) : Type 0 where
  pub low : y < p → r ≡ y
  pub none : m ≤ y → r ≡ y
  pub some : p ≤ y → y < m → r ≡ y + c

-- v is w with the places from j on, below m, c places higher than they were, and their links raised
pub record MovedUp (h p m c j : ℕ) (w v : List ℕ) : Type 0 where
  pub entries : (q : ℕ) → j ≤ q → q < m → entry_in v h (q + c) ≡ entry_in w h q
  pub nexts : (q : ℕ) → j ≤ q → q < m → Up p m c (next_at w h q) (next_at v h (q + c))
  pub below : (q : ℕ) → q < h + 4 * (j + c) → get_or v q 0 ≡ get_or w q 0
  pub rest : KeptFrom (h + 4 * (m + c)) w v

-- v is w with a gap of c places from p on, of m, which no link leads to
pub record GapMade (h p m c : ℕ) (w v : List ℕ) : Type 0 where
  pub heads : (s : ℕ) → s < h → Up p m c (get_or w s 0) (get_or v s 0)
  pub lower : (q : ℕ) → q < p → (entry_in v h q ≡ entry_in w h q) × Up p m c (next_at w h q) (next_at v h q)
  pub higher : (q : ℕ) → p ≤ q → q < m → (entry_in v h (q + c) ≡ entry_in w h q) × Up p m c (next_at w h q) (next_at v h (q + c))
  pub rest : KeptFrom (h + 4 * (m + c)) w v

-- one more than a place, or 0 where there is none
abbrev pub behind : Option ℕ → ℕ
behind None = 0
behind (Some q) = q + 1

-- place r - 1 is the last below p of slot s, or r is 0 and there is none, where the words w are chained with a gap at place p
pub record LastBelow (h p s : ℕ) (w : List ℕ) (r : ℕ) : Type 0 where
  pub within : r ≤ p
  pub last : (f : ℕ → ℕ) (n t : ℕ) → n ≤ 4096 → p ≤ t → t ≤ n → ((q : ℕ) → f q ≡ address_at w h q % h) → Chained f h n p t w
      → (0 < r → f (r - 1) ≡ s) × ((q : ℕ) → r ≤ q → q < p → f q ≢ s)

-- v is w with the places from u on, below t, of a gap that begins at place p, linked into their slots' chains
pub record LinkedIn (h p u t : ℕ) (w v : List ℕ) : Type 0 where
  pub chains : (f : ℕ → ℕ) (n : ℕ) → n ≤ 4096 → t ≤ n → ((q : ℕ) → f q ≡ address_at w h q % h) → Chained f h n p t w → Chained f h n p u v
  pub entries : (q : ℕ) → entry_in v h q ≡ entry_in w h q
  pub rest : KeptFrom (h + 4 * t) w v
