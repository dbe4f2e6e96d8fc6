-- The numbers of the calls, as their functions try them: rows 1 to 3 first, then the rows of the call.
-- Assumes nothing.
use mathlib.Core.List.{List}
use mathlib.Core.Bool.{true}
use mathlib.Core.Path.{◌≡◌, sym}
use Prim.Native.Nat.{ℕ, ◌+◌, ◌<◌}
use native.Mathlib.Omega.{arith}
use Rattle.shelf.specs.Members.{array_members}
use Rattle.shelf.specs.below.Records.{Sized}
use Rattle.shelf.specs.Status.{fail, put_back, new_log}
use Rattle.shelf.specs.Lent.{flag_at, tries_list, listed_by, number_of}
use Rattle.shelf.specs.declared.record.Shelf.{Shelf}
use Rattle.shelf.proofs.numbers.InputLaws.{sized, inputs_pass}
use Rattle.shelf.proofs.numbers.TableRows.{fail_zero, put-back_zero}

-- ---- what an accepted call gives its method

module _ (r : Shelf) (na nl : ℕ) (l : List ℕ) where
  pub fail_bounds : (j : ℕ) → 0 ≡ number_of r na nl l (fail j) → Sized r.geometry × (j < 19)
  unfolding number_of tries_list
  fail_bounds j e =
      let P = inputs_pass r na nl l _ (sym e) in
      let o = fail_zero r.geometry (flag_at r) r.mode (listed_by r.geometry l) j P.1 in
      (sized P.0.range, omega (arith, P.0.range.d_most, P.0.range.parities_most, o.0))

  pub put-back_bounds : (j : ℕ) → 0 ≡ number_of r na nl l (put_back j) → (j < 19) × ((j < array_members r.geometry) × (flag_at r j ≡ true))
  unfolding number_of tries_list
  put-back_bounds j e =
      let P = inputs_pass r na nl l _ (sym e) in
      let o = put-back_zero r.geometry (flag_at r) r.mode (listed_by r.geometry l) j P.1 in
      (omega (arith, P.0.range.d_most, P.0.range.parities_most, o.0), o)

  pub new-log_bounds : 0 ≡ number_of r na nl l new_log → Sized r.geometry × (r.geometry.d + r.geometry.parities < 19)
  unfolding number_of tries_list
  new-log_bounds e = let P = inputs_pass r na nl l _ (sym e) in (sized P.0.range, omega (arith, P.0.range.d_most, P.0.range.parities_most))
