use Rattle.std.proofs.Common.{◌≡◌, true, false, rules}
use Rattle.mc_text.specs.model_text.specs.Text.{fields}
use Rattle.mc_text.specs.model_text.specs.Text.{is_end}
use Rattle.desk_draft.proofs.DraftLemmas.{end_turned}
use Rattle.desk_draft.proofs.WrittenLemmas.{end_keeps, line_keeps}
use Rattle.desk_draft.proofs.draft.within.Goals as goal

pub returns-then-ends_section-clause-turned : goal.returns-then-ends_section-clause-turned
returns-then-ends_section-clause-turned c = λ b t knows st.
    let is : is_end (fields c.args.line.now) ≡ true = search rules in
    end_turned b t c.args.number c.args.line.now c.args.writer.now.deck.items c.end_line.new.writer.deck.items c.args.later (is_end (fields c.args.line.now)) c.end_line.new.writer.known is c.in_ok-end_line.ensures.deck
    (c.in_ok-end_line.ensures.kept b.sections b.rules t knows st)

pub returns-then-ends_section-clause-kept : goal.returns-then-ends_section-clause-kept
returns-then-ends_section-clause-kept c = λ b t st kept lines u h.
    let is : is_end (fields c.args.line.now) ≡ true = search rules in
    let new = c.end_line.new.writer.deck.items in
    end_keeps b t c.args.number c.args.line.now c.args.writer.now.deck.items new c.args.line.now c.args.later (is_end (fields c.args.line.now)) u c.args.writer.now.sections.items c.end_line.new.writer.sections.items c.args.section.lines.items is c.in_ok-end_line.ensures.deck h kept lines
    (λ x y. c.in_ok-end_line.ensures.sections new b.sections t st x y)

pub returns-clause-kept : goal.returns-clause-kept
returns-clause-kept c = λ b t st kept lines u h.
    let is : is_end (fields c.args.line.now) ≡ false = search rules in
    line_keeps b t c.args.number c.args.line.now c.args.writer.now.deck.items c.keep_line.new.deck.items c.args.later (is_end (fields c.args.line.now)) u c.args.writer.now.sections.items c.args.section c.keep_line.new.section is h st
    (c.in_ok-keep_line.ensures.turned t.scope.names st.names) kept (λ text e. c.in_ok-keep_line.ensures.lines t.lines text lines e)
