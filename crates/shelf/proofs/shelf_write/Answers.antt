-- `shelf::shelf_write` meets its contract.
-- Assumes nothing.
use mathlib.Core.List.{List}
use mathlib.Core.Path.{◌≡◌, refl}
use native.Mathlib.Omega.{arith}
use Prim.Native.Nat.{ℕ}
use lib.ListN.{length, length-replicate}
use Rattle.shelf.specs.Lent.{number_of, tries_list}
use Rattle.shelf.specs.Status.{write, code_of}
use Rattle.shelf.specs.below.Records.{call_of}
use Rattle.shelf.specs.declared.record.Shelf.{Shelf}
use Rattle.shelf.specs.declared.status.Request.TheVariants.{Write}
use Rattle.shelf.proofs.lent.AnswerLaws.{accepted_answer, refused_answer}
use Rattle.shelf.proofs.calls.WrittenLaws.{write_asks, write_answered}
use borrow.Author.Rules.{rules}
use Rattle.shelf.proofs.shelf_write.Goals as goal

-- the number is that of the write
write_number : (r : Shelf) (na nl : ℕ) (l : List ℕ) (a n : ℕ) (v : List ℕ) (code : ℕ) → code ≡ number_of r na nl l (call_of (Write a n (length v)))
    → code ≡ number_of r na nl l (write a n v)
unfolding number_of tries_list code_of
write_number r na nl l a n v code e = rw (length-replicate {A = ℕ} (length v) 0) at e

pub write_blocks-requires : goal.write_blocks-requires
write_blocks-requires c =
    let a = c.args in
    let long : length a.shelf.failed ≡ 19 = search rules in
    write_asks a.shelf a.array.now a.log.now a.list.now long a.address a.count a.source.now 0 (write_number a.shelf (length a.array.now) (length a.log.now) a.list.now a.address a.count a.source.now 0 c.in_default.ensures) refl

pub returns-in-Err : goal.returns-in-Err
returns-in-Err c =
    let a = c.args in
    refused_answer c.in-Err.refusal c.refused.ensures (write_number a.shelf (length a.array.now) (length a.log.now) a.list.now a.address a.count a.source.now _ c.in-Err.ensures)

pub returns : goal.returns
returns c =
    let a = c.args in
    let long : length a.shelf.failed ≡ 19 = search rules in
    let w = c.write_blocks in
    accepted_answer c.accepted.ensures refl
    (write_answered a.shelf a.array.now a.log.now a.list.now long a.address a.count a.source.now 0 (write_number a.shelf (length a.array.now) (length a.log.now) a.list.now a.address a.count a.source.now 0 c.in_default.ensures) refl w.result w.new.array w.new.log w.new.list w.ensures (λ i. omega (arith, c.type_inv.list i)))
