use Rattle.std.proofs.Common.{Option, refl, subst}
use Rattle.std.proofs.lemmas.Result.{err_from_is_err_and}
use Rattle.mc_text.specs.model_text.specs.Text.{fields}
use Rattle.desk_draft.specs.Drafts.{new_section}
use Rattle.desk_draft.specs.declared.draft.OpenSection.{OpenSection}
use Rattle.desk_draft.specs.Views.{OpensSection}
use Rattle.desk_draft.proofs.DraftLemmas.{spoken_refused, spoken_turned}
use Rattle.desk_draft.proofs.WrittenLemmas.{opening_keeps, spoken_keeps}
use Rattle.desk_draft.proofs.draft.between.Goals as goal

pub returns-in_err-push_spoken-in-None-clause-turned : goal.returns-in_err-push_spoken-in-None-clause-turned
returns-in_err-push_spoken-in-None-clause-turned c = λ b h.
    let p = err_from_is_err_and c.from_residual-in_err-push_spoken-in-None.result c.from_residual-in_err-push_spoken-in-None.ensures.1 in
    let opens = subst (λ (o : Option OpenSection). OpensSection o (new_section (fields c.args.line.now))) c.in-None.is c.new_section.ensures.opens in
    rw (p.1, p.2) (spoken_refused (new_section (fields c.args.line.now)) b c.args.line.now c.in_err-push_spoken-in-None.field-0.0 opens (c.in_err-push_spoken-in-None.ensures b h.knows))

pub returns-in_ok-push-in-Some-clause-kept : goal.returns-in_ok-push-in-Some-clause-kept
returns-in_ok-push-in-Some-clause-kept c = λ b h k t e.
    let line = c.args.line.now in
    opening_keeps (fields line) (new_section (fields line)) b line c.args.writer.now.deck.items c.push.new.text.items t c.args.writer.now.sections.items c.in-Some.section refl c.in-Some.ensures.opens c.in-Some.ensures.empty c.in_ok-push-in-Some.ensures k e

pub returns-in_ok-push_spoken-in-None-clause-kept : goal.returns-in_ok-push_spoken-in-None-clause-kept
returns-in_ok-push_spoken-in-None-clause-kept c = λ b h k t e.
    let line = c.args.line.now in
    spoken_keeps (new_section (fields line)) b line c.args.writer.now.deck.items c.push_spoken.new.deck.items t c.args.writer.now.sections.items c.in-None.ensures.opens (c.in_ok-push_spoken-in-None.ensures b h.knows) k e

pub returns-in_ok-push_spoken-in-None-clause-turned : goal.returns-in_ok-push_spoken-in-None-clause-turned
returns-in_ok-push_spoken-in-None-clause-turned c = λ b h.
    let line = c.args.line.now in
    let opens = subst (λ (o : Option OpenSection). OpensSection o (new_section (fields line))) c.in-None.is c.new_section.ensures.opens in
    spoken_turned (new_section (fields line)) b line c.args.writer.now.deck.items c.push_spoken.new.deck.items c.hear.new.known opens h.mode (c.in_ok-push_spoken-in-None.ensures b h.knows) (c.hear.ensures b.sections b.rules h.knows)
