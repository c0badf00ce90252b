use Rattle.desk_draft.proofs.ReadLemmas.{turned_between, turned_within}
use Rattle.desk_draft.proofs.WrittenLemmas.{within_keeps}
use Rattle.desk_draft.proofs.draft.line_turn.Goals as goal

pub returns-in-None-clause-turned : goal.returns-in-None-clause-turned
returns-in-None-clause-turned c = λ b h.
    turned_between c.args.writer.now.deck.items c.between.new.writer.deck.items c.args.writer.now.known c.between.new.writer.known c.args.section b c.args.number c.args.line.now c.args.later c.between.result c.in-None.is h (λ at. c.between.ensures.turned b at)

pub returns-in-Some-clause-turned : goal.returns-in-Some-clause-turned
returns-in-Some-clause-turned c = λ b h.
    turned_within c.args.writer.now.deck.items c.within.new.writer.deck.items c.args.writer.now.known c.within.new.writer.known c.args.section b c.args.number c.args.line.now c.args.later c.within.result c.in-Some.section c.in-Some.is h
    (λ t a s. c.within.ensures.turned b t a s)

pub returns-in-Some-clause-kept : goal.returns-in-Some-clause-kept
returns-in-Some-clause-kept c = λ b h k.
    within_keeps c.args.writer.now.deck.items c.within.new.writer.deck.items c.args.line.now c.args.writer.now.known c.args.writer.now.sections.items c.within.new.writer.sections.items c.args.section c.within.result b c.args.number c.args.later c.in-Some.section c.in-Some.is h k
    (λ t s x y. c.within.ensures.kept b t s x y)
