-- `shelf::links::lowered` meets its contract. The loop's invariant: the link led past no place of its slot that stays.
-- Assumes nothing.
use Rattle.shelf.specs.Words.{words}
use Rattle.shelf.specs.below.Rewriting.{next_behind}
use Rattle.shelf.proofs.hashlist.LinkLaws.{passing_turn, lowers_low, lowers_none, lowers_high}
use Rattle.shelf.proofs.links.lowered.Goals as goal

pub returns-then-z-p : goal.returns-then-z-p
returns-then-z-p c =
    let st = c in
    let a = st.args in
    let at = c.loop-z in
    lowers_low (next_behind (words a.behind.now) a.p) a.p a.q a.y at.z st.requires.p_le_q at.invariant c.if-z-p.true

pub loop-z-preserved : goal.loop-z-preserved
loop-z-preserved c =
    let st = c in
    let a = st.args in
    let at = c.loop-z in
    passing_turn (next_behind (words a.behind.now) a.p) a.p a.q a.y at.z c.next-z.result c.if-z-p.false c.loop-z-test.true c.next-z.ensures at.invariant

pub returns-then-z : goal.returns-then-z
returns-then-z c =
    let st = c in
    let a = st.args in
    let at = c.loop-z in
    lowers_none (next_behind (words a.behind.now) a.p) a.p a.q a.y at.z st.requires.p_le_q at.invariant c.if-z.true

pub returns : goal.returns
returns c =
    let st = c in
    let a = st.args in
    let at = c.loop-z in
    lowers_high (next_behind (words a.behind.now) a.p) a.p a.q a.y at.z st.requires.p_le_q at.invariant c.loop-z-test.false c.if-z.false
