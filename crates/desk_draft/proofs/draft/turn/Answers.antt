use Rattle.desk_draft.proofs.WrittenLemmas.{keeps_grows}
use Rattle.desk_draft.proofs.draft.turn.Goals as goal

pub returns-clause-kept : goal.returns-clause-kept
returns-clause-kept c = λ b h k t e.
    keeps_grows c.marked_turn.new.writer.deck.items c.args.line.now.ending.now c.push.new.text.items c.marked_turn.new.writer.sections.items c.in_ok-section.section t.before c.in_ok-push.ensures (c.in_ok-section.ensures.kept b h k t e)
