-- `shelf::stale::lowest_stale` meets its contract.
-- Assumes nothing.
use mathlib.Core.List.{List}
use mathlib.Core.Path.{ap, ◌∙◌}
use Prim.Native.Nat.{ℕ, ◌/◌}
use Rattle.shelf.specs.Words.{words}
use Rattle.shelf.proofs.hashlist.StaleLaws.{lowest-none, lowest_first}
use Rattle.shelf.proofs.stale.lowest_stale.Goals as goal

pub returns-then-n-eq0 : goal.returns-then-n-eq0
returns-then-n-eq0 c =
    let st = c in
    let m = st.requires.measures in
    let v = st.requires.lists in
    lowest-none (words st.args.list.now) st.args.g v.next st.args.n m.h0 m.d0 m.e1 v.passing c.if-n-eq0.true

pub returns : goal.returns
returns c =
    let st = c in
    let m = st.requires.measures in
    let v = st.requires.lists in
    let w : List ℕ = words st.args.list.now in
    ap (λ (k : ℕ). k / st.args.g.d) c.address.ensures
    ∙ lowest_first w st.args.g v.next st.args.n m.h0 m.d0 m.e1 v.passing c.if-n-eq0.false
