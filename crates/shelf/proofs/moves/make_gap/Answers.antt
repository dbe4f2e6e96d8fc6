-- `shelf::moves::make_gap` meets its contract.
-- Assumes nothing.
use Rattle.shelf.specs.Words.{words}
use Rattle.shelf.specs.below.Rewriting.{Up}
use Rattle.shelf.proofs.hashlist.LinkLaws.{front_known, gap_made}
use borrow.Author.Rules.{rules}
use Rattle.shelf.proofs.moves.make_gap.Goals as goal

pub returns : goal.returns
returns c =
    let a = c.args in
    let front = c.relabel_front in
    gap_made a.h a.p a.m a.c (words a.list.now) (words front.new.front) (words c.move_up.new.list) c.requires.p_le_m
    (front_known _ (Up a.p a.m a.c) (λ y r z. search rules) a.h a.p _ _ front.ensures) c.move_up.ensures
