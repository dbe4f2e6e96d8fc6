-- What the exports for tests and benchmarks answer and leave.
-- Assumes nothing.
use Rattle.std.specs.Prelude.{Bool, not, ◌||◌, List, ℕ, ◌+◌, ◌*◌, eqb, ltb, length}
use Rattle.stripe.specs.Parity.{pick}
use Rattle.stripe.specs.Places.{place, parity_made_all}
use Rattle.stripe.specs.Calls.{bad_measures, accepted}

-- a measure is out of its range
unfoldable pub bad_shape : ℕ → ℕ → ℕ → ℕ → Bool
bad_shape d k s b = bad_measures d k b || (ltb s 1 || ltb 65536 s)

unfoldable pub all_code : ℕ → ℕ → ℕ → ℕ → ℕ → ℕ
all_code d k s b n = pick (bad_shape d k s b) 1 (pick (not (eqb n ((d + k) * s * b))) 2 0)

unfoldable pub all_buffer : ℕ → ℕ → ℕ → ℕ → List ℕ → List ℕ
all_buffer d k s b l = accepted (all_code d k s b (length l)) (parity_made_all s (place 0 d k s) d k b l) l
