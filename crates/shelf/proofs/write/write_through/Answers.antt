-- `shelf::write::write_through` meets its contract.
-- Assumes nothing.
use mathlib.Core.List.{List}
use mathlib.Core.Path.{◌∙◌, ap}
use Prim.Native.Nat.{ℕ}
use Rattle.stripe.specs.Places.{parity_made}
use Rattle.shelf.specs.Members.{place_at}
use Rattle.shelf.proofs.calls.ShareLaws.{made-shows}
use Rattle.shelf.proofs.write.write_through.Goals as goal

pub make_stripe-n-requires-clause-array_len : goal.make_stripe-n-requires-clause-array_len
make_stripe-n-requires-clause-array_len c =
    let W = c.requires in
    c.array-1.given ∙ W.array

pub make_stripe-n-requires-clause-lists : goal.make_stripe-n-requires-clause-lists
make_stripe-n-requires-clause-lists c =
    let W = c.requires in
    record { next = c.args.shelf.next; passing = W.listing.valid }

pub returns : goal.returns
returns c =
    let a = c in
    let W = a.requires in
    let g = a.args.shelf.geometry in
    let d = c.make_stripe-n in
    let made = d.ensures.array_after ∙ ap (λ (z : List ℕ). parity_made (place_at g a.args.share.now.x) g.d g.parities g.b z) c.store_new.ensures in
    λ s w v n S H. made-shows a.args.shelf a.args.list.now d.new.list a.args.share.now d.result W.listing W.there d.ensures.rewritten s w v a.args.array.now n S H c.drop_to.result d.new.array c.drop_to.ensures made
