use Rattle.std.proofs.Common.{◌/◌, [], ◌∷◌, refl, ap}
use Rattle.mc_segs.specs.HeldFrames.{Held}
use Rattle.mc_segs.proofs.StoreLemmas.{done_at_once, items_at_once}
use Rattle.mc_segs.proofs.protection.commit_word.Goals as goal

pub returns-clause-items : goal.returns-clause-items
returns-clause-items g c =
    items_at_once g.B.Bank c.args.bank.now c.commit.new.self c.args.frame.now c.frame.inside.slot c.args.at c.args.from.now [] ((c.args.at / 8, c.word_with-word.result) ∷ []) ((c.args.at / 8, c.word_with-word.result) ∷ []) c.commit.result
    (ap (λ (h : Held). h.slot) c.frame.view_is) refl refl c.word_with-word.ensures c.commit.ensures.items

pub returns-clause-done : goal.returns-clause-done
returns-clause-done g c =
    done_at_once g.B.Bank c.args.bank.now c.commit.new.self c.args.frame.now c.frame.inside.slot c.args.at c.args.from.now [] ((c.args.at / 8, c.word_with-word.result) ∷ []) ((c.args.at / 8, c.word_with-word.result) ∷ []) c.commit.result
    (ap (λ (h : Held). h.slot) c.frame.view_is) refl refl c.requires.runs.fits c.requires.low c.requires.range c.word_with-word.ensures c.commit.ensures.items c.commit.ensures.apps c.commit.ensures.slots
