-- Tables of tests, by index.
-- Assumes nothing.
use Rattle.std.specs.Prelude.{Bool, true, false, ◌&&◌, List, ◌≡◌, ℕ, zero, suc, ◌<◌, get_or}

-- whether each of the first n numbers passes
unfoldable pub every : ℕ → (ℕ → Bool) → Bool
every zero f = true
every (suc n) f = every n f && f n

-- a table that has w i for each index of the first n
abbrev pub Tests : ℕ → (ℕ → Bool) → List Bool → Type 0
Tests n w ts = (i : ℕ) → i < n → get_or ts i false ≡ w i

-- entry i of a table of tests
abbrev pub tested : List Bool → ℕ → Bool
tested ts i = get_or ts i false
