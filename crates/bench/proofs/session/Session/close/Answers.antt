-- `bench::session::Session::close` meets its contract.
-- Assumes nothing.
use mathlib.Core.List.{◌++◌}
use mathlib.Core.Path.{◌≡◌, sym, ◌∙◌}
use Prim.Native.Nat.{◌+◌, ◌-◌, ◌≤◌}
use native.Mathlib.Omega.{arith}
use lib.ListN.{length, drop, length-append, length-drop}
use lib.Seq.{length-take-le}
use Rattle.bench.proofs.SessionLaws.{mid_length, closes_made}
use Rattle.bench.proofs.session.Session.close.Goals as goal

pub slice_bounds-take_last-end-2 : goal.slice_bounds-take_last-end-2
slice_bounds-take_last-end-2 c = sym (length-take-le 128 c.args.out.now (omega (arith, c.requires)))

pub take_last-at-requires : goal.take_last-at-requires
take_last-at-requires c = length-take-le 128 c.args.out.now (omega (arith, c.requires))

pub returns-clause-closes : goal.returns-clause-closes
returns-clause-closes c =
    let o = c.args.out.now in
    let e = c.take_last-at in
    let x = e.new.out in
    let f = c.put_closing in
    let room : 128 ≤ length o = omega (arith, c.requires) in
    let full : length x ≡ 128 = e.auto.out ∙ length-take-le 128 o room in
    let long : length (x ++ drop 128 o) ≡ length x + length (drop 128 o) = length-append x (drop 128 o) in
    let rest : length (drop 128 o) ≡ length o - 128 = length-drop 128 o in
    let more : f.result ≤ length f.new.out = omega (arith, f.ensures.upper_bound, f.auto.out, mid_length e.result (x ++ drop 128 o) (omega (arith, e.ensures.len_bound, c.requires))) in
    let fits : e.result ≤ length x = omega (arith, e.ensures.len_bound) in
    closes_made _ _ _ x o f.new.out e.result f.result (e.result + 128 - e.result) e.ensures.ends f.ensures.out_after fits more
