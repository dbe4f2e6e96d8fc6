-- `bench::session::Session::feed` meets its contract.
-- Assumes nothing.
use mathlib.Core.Path.{◌≡◌, refl, ◌∙◌}
use Prim.Native.Nat.{◌+◌, ◌-◌, ◌≤◌}
use native.Mathlib.Omega.{arith}
use lib.ListN.{length}
use Rattle.bench.specs.declared.session.Session.{Session}
use Rattle.bench.proofs.SessionLaws.{mid_length, out_more, so_far_none, so_far_line, so_far_bytes, so_far_all, rest_is, taken_within, next_newline}
use Rattle.bench.proofs.session.Session.feed.Goals as goal

pub loop-at-init : goal.loop-at-init
loop-at-init c = (omega arith, (omega arith, λ t k. so_far_none _ t _ k))

pub loop-at-preserved-then-at-input : goal.loop-at-preserved-then-at-input
loop-at-preserved-then-at-input c =
    let l = c.loop-at in
    let p = c.push_until-at in
    let k = c.take_line-len in
    let input = c.args.input.now in
    let rest = rest_is l.at input in
    let held : Session = record { stage = l.self.stage; line = p.new.self; room = l.self.room; ready = l.self.ready } in
    let room : l.len + 128 ≤ length l.out = omega (arith, l.invariant.1.0, l.auto.out, c.loop-at-test.true, c.requires.input_len_bound, c.requires.out_len) in
    let full : length k.new.out ≡ 128 = k.auto.out ∙ mid_length l.len l.out room in
    let more = out_more l.len (l.len + 128 - l.len) k.result l.out k.new.out (omega arith) (omega (arith, k.ensures.few)) in (
      omega (arith, c.if-at-input.true),
      (
        omega (arith, l.invariant.1.0, k.ensures.few),
        λ t kept. so_far_line _ t _ _ (l.at + p.result) _ _ _ held _ c.if-at-input.true (next_newline _ _ l.at p.result rest c.if-at-input.true p.ensures.at_end)
            (so_far_bytes _ t _ _ _ l.at p.result _ l.self held rest p.ensures.upper_bound p.ensures.no_end (l.invariant.1.1 t kept) p.ensures.extends refl refl)
            k.ensures.made c.clear.ensures more,
      ),
    )

pub loop-at-preserved : goal.loop-at-preserved
loop-at-preserved c =
    let l = c.loop-at in
    let p = c.push_until-at in
    let piece = c.args.input.now in
    let rest = rest_is l.at piece in (
      taken_within _ _ l.at p.result rest l.invariant.0 p.ensures.upper_bound,
      (
        omega (arith, l.invariant.1.0),
        λ t kept. so_far_bytes _ t _ _ _ l.at p.result _ l.self _ rest p.ensures.upper_bound p.ensures.no_end (l.invariant.1.1 t kept) p.ensures.extends refl refl,
      ),
    )

pub returns : goal.returns
returns c =
    let l = c.loop-at in
    record {
      within = omega (arith, l.invariant.0, l.invariant.1.0, c.requires.input_len_bound, c.requires.out_len, l.auto.out);
      transcript = λ t k. (so_far_all _ t _ _ l.at _ _ (l.invariant.1.1 t k) c.loop-at-test.false).0;
      keeps = λ t k. (so_far_all _ t _ _ l.at _ _ (l.invariant.1.1 t k) c.loop-at-test.false).1;
    }
