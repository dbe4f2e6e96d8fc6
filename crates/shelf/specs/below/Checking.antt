-- Number 3 as the code tests it: place by place, and chain by chain.
-- Assumes nothing.
use Rattle.std.specs.Prelude.{ℕ, zero, suc, ◌+◌, ◌-◌, ◌*◌, ◌%◌, ◌≤◌, ◌<◌, Bool, true, false, ◌&&◌, ◌||◌, List, ltb, leb, eqb, get_or}
use Rattle.shelf.specs.declared.record.Geometry.{Geometry}
use Rattle.shelf.specs.Counting.{choose}
use Rattle.shelf.specs.below.Tables.{every}
use Rattle.shelf.specs.HashList.{none_word, address_at, ori_at, cur_at, next_at, is_record, good_words}

-- ---- the places

-- place p, behind h slot heads, lies within n bytes
abbrev pub HasPlace : ℕ → ℕ → ℕ → Type 0
HasPlace h p n = (h ≤ 256) × ((p < 4096) × (4 * (h + 4 * p) + 16 ≤ n))

-- the addresses of the first n places are below 1048576, which 16 data disks of 65536 stripes have
abbrev pub LowTo : List ℕ → ℕ → ℕ → Type 0
LowTo w h n = (q : ℕ) → q < n → address_at w h q < 1048576

-- an address below d * s; Ori none or below next, and so is Cur
unfoldable pub in_range : Geometry → ℕ → ℕ → ℕ → ℕ → Bool
in_range g next a o c = ltb a (g.d * g.s) && (is_record o next && is_record c next)

-- the stripe of address a, in place p of n, stands whole around p: its first block stands as many places before p as a has addresses of its
-- stripe before it, and its last block d - 1 places on
unfoldable pub around : List ℕ → Geometry → ℕ → ℕ → ℕ → Bool
around w g n p a =
    leb (a % g.d) p
    && (leb (p - a % g.d + g.d) n
    && (eqb (address_at w g.h (p - a % g.d)) (a - a % g.d)
    && eqb (address_at w g.h (p - a % g.d + (g.d - 1))) (a - a % g.d + (g.d - 1))))

-- place p of the n listed is without fault: its address is above that of the place before, its words are good, and where it lacks Ori its stripe
-- stands whole around it
unfoldable pub good_place : List ℕ → Geometry → ℕ → ℕ → ℕ → Bool
good_place w g next n p =
    (eqb p 0 || ltb (address_at w g.h (p - 1)) (address_at w g.h p))
    && (good_words g next (address_at w g.h p) (ori_at w g.h p) (cur_at w g.h p)
    && choose (eqb (ori_at w g.h p) none_word) (around w g n p (address_at w g.h p)) true)

-- every word of place p is none
unfoldable pub unused : List ℕ → ℕ → ℕ → Bool
unused w h p =
    eqb (address_at w h p) none_word
    && (eqb (ori_at w h p) none_word && (eqb (cur_at w h p) none_word && eqb (next_at w h p) none_word))

-- the words from i on, below k, are none
unfoldable pub none_words : List ℕ → ℕ → ℕ → Bool
none_words w i k = every (k - i) (λ j. eqb (get_or w (i + j) 0) none_word)

-- place p is as it must be, where the first n are listed
unfoldable pub fine : List ℕ → Geometry → ℕ → ℕ → ℕ → Bool
fine w g next n p = choose (ltb p n) (good_place w g next n p) (unused w g.h p)

-- ---- the chains

-- place p in slot i's chain is of that slot, and the chain goes on above it (none is above every place)
unfoldable pub links : List ℕ → ℕ → ℕ → ℕ → Bool
links w h i p = eqb (address_at w h p % h) i && ltb p (next_at w h p)

-- what a walk along chains comes to: how many places it has met, or a fault
pub data Walk : Type 0 where
  All : ℕ → Walk
  Fault : Walk

-- slot i's chain from place p on, where n places were met before: a place number that is not below e is a fault; so is a place that does not
-- link up, and so are more than f places
unfoldable pub follow : ℕ → List ℕ → ℕ → ℕ → ℕ → ℕ → ℕ → Walk
follow zero w h e i p n = elim (eqb p none_word) [ true ↦ All n | false ↦ Fault ]
follow (suc f) w h e i p n =
    elim (eqb p none_word) [
      | true ↦ All n
      | false ↦ elim (ltb p e)
          [ true ↦ elim (links w h i p) [ true ↦ follow f w h e i (next_at w h p) (n + 1) | false ↦ Fault ] | false ↦ Fault ]
    ]

-- the chains of the f slots from i on, of no more than e places in all, all below e
unfoldable pub slots : ℕ → List ℕ → ℕ → ℕ → ℕ → ℕ → Walk
slots zero w h e i n = All n
slots (suc f) w h e i n = elim (follow (e - n) w h e i (get_or w i 0) n) [ All k ↦ slots f w h e (i + 1) k | Fault ↦ Fault ]

-- the walk came to the end, and met k places
unfoldable pub counted : Walk → ℕ → Bool
counted (All n) k = eqb n k
counted Fault k = false

-- the chains of all slots hold the first e places, each once
unfoldable pub chained : List ℕ → ℕ → ℕ → Bool
chained w h e = counted (slots h w h e 0 0) e
