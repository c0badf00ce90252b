use Rattle.std.proofs.Common.{sym, ◌∙◌}
use Rattle.law_explore_text.specs.law_explore.specs.States.{play_of}
use Rattle.lab_search.proofs.TryLemmas.{made_yes, made_no, counts_write}
use Rattle.lab_search.proofs.making.make.Goals as goal

pub returns-then-is_missed-clause-made : goal.returns-then-is_missed-clause-made
returns-then-is_missed-clause-made g c k m at steady kept is card can =
    let counts = counts_write k c.args.manner can in
    made_no g.N.Nvm.state g.N.Bench.bench k m c.args.manner c.arm.new.player c.play_move-answer.new.player c.play_move-answer.result c.args.candidate.now.ons.now c.args.candidate.now.applies.now c.args.counts.now
    c.play_move-answer.new.counts c.put_result.new.text.items card kept can (c.arm.ensures.at (play_of k) m.number counts at steady tt) (c.arm.ensures.steady counts (play_of k) at steady tt)
    (c.play_move-answer.ensures.plays m.line is.deck) (c.play_move-answer.ensures.counts m.line is.deck) c.put_result.ensures.text (sym c.is_missed.ensures ∙ c.if-is_missed.true)

pub returns-clause-made : goal.returns-clause-made
returns-clause-made g c k m at steady kept is card can =
    let counts = counts_write k c.args.manner can in
    made_yes g.N.Nvm.state g.N.Bench.bench k m c.args.manner c.arm.new.player c.play_move-answer.new.player c.recover.new.player c.play_move-answer.result c.args.candidate.now.ons.now c.args.candidate.now.applies.now
    c.args.counts.now c.play_move-answer.new.counts c.put_result.new.text.items card kept can (c.arm.ensures.at (play_of k) m.number counts at steady tt) (c.arm.ensures.steady counts (play_of k) at steady tt)
    (c.play_move-answer.ensures.plays m.line is.deck) (c.play_move-answer.ensures.counts m.line is.deck) c.put_result.ensures.text (sym c.is_missed.ensures ∙ c.if-is_missed.false) c.recover.ensures.at
