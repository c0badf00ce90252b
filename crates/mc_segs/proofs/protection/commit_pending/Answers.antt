use Rattle.std.proofs.Common.{ap, sym, ◌∙◌}
use Rattle.mc_bank.specs.Bank.{apps_after_commit, name_or}
use Rattle.mc_segs.specs.HeldFrames.{Held}
use Rattle.mc_segs.proofs.AccessLemmas.{has_words}
use Rattle.mc_segs.proofs.StoreLemmas.{fixed_under, all_words, all_words_now, some_words, on_ok, is_now}
use Rattle.mc_segs.proofs.protection.commit_pending.Goals as goal

pub returns-clause-items : goal.returns-clause-items
returns-clause-items g c =
    let b = c.args.bank.now in
    let h = c.args.frame.now in
    let has = has_words (fixed_under g.B.Bank b h) c.frame.inside h c.frame.view_is c.frame.invariant c.requires.runs.fits.fixed in
    all_words g.B.Bank b c.commit.new.self c.frame.inside h c.frame.inside.slot c.list-words.result.now c.commit.result (ap (λ (t : Held). t.slot) c.frame.view_is) c.list-words.ensures.words has
    (some_words c.list-words.result.now (sym c.is_empty.ensures ∙ c.if-is_empty.false)) c.commit.ensures.items

pub returns-clause-fixed : goal.returns-clause-fixed
returns-clause-fixed g c =
    let state = g.B.Bank.state in
    let named = g.B.Bank.named in
    let b = c.args.bank.now in
    let e = c.commit.new.self in
    let h = c.args.frame.now in
    let has = has_words (fixed_under g.B.Bank b h) c.frame.inside h c.frame.view_is c.frame.invariant c.requires.runs.fits.fixed in
    on_ok (state b) (state e) (apps_after_commit (state b).apps (name_or (named b c.frame.inside.slot)) c.list-words.result.now) c.commit.result (is_now g.B.Bank b e h) c.commit.ensures.apps (λ apps.
    all_words_now g.B.Bank b e c.frame.inside h c.frame.inside.slot c.list-words.result.now (ap (λ (t : Held). t.slot) c.frame.view_is) c.list-words.ensures.words c.requires.runs.fits has apps c.commit.ensures.slots)
