use Rattle.std.proofs.Common.{◌≡◌, ◌∙◌, ℕ, List, ap, drop, length, rules, subst}
use Rattle.std.specs.Prelude.{Bool, bytes_eq, not}
use Rattle.desk_draft.specs.Drafts.{marked_rules}
use Rattle.desk_draft.specs.Views.{Knows}
use Rattle.desk_draft.proofs.DraftLemmas.{line_marked}
use Rattle.desk_draft.proofs.WrittenLemmas.{marked_keeps}
use Rattle.desk_draft.proofs.draft.marked_turn.Goals as goal

pub returns-clause-turned : goal.returns-clause-turned
returns-clause-turned c = λ b h.
    let old = c.args.writer.now.deck.items in
    let new = c.line_turn.new.writer.deck.items in
    let line = c.args.line.now in
    let start : c.len-start.result ≡ length old = search rules in
    let same : c.as_slice.result.now ≡ new = search rules in
    let other : c.differs-other.result ≡ not (bytes_eq (drop (length old) new) line) =
    c.differs-other.ensures ∙ ap (λ (n : ℕ). not (bytes_eq (drop n c.as_slice.result.now) line)) start ∙ ap (λ (d : List ℕ). not (bytes_eq (drop (length old) d) line)) same in
    line_marked old new line c.line_turn.new.writer.known c.mark.new.known c.in_ok-section.section b c.args.number c.args.later (c.in_ok-section.ensures.turned b h)
    (λ ss r k. subst (λ (x : Bool). Knows c.mark.new.known ss (marked_rules r x)) other (c.mark.ensures ss r k))

pub returns-clause-kept : goal.returns-clause-kept
returns-clause-kept c = λ b h k t e.
    marked_keeps b c.args.number c.args.line.now c.line_turn.new.writer.deck.items c.args.later t c.line_turn.new.writer.sections.items c.in_ok-section.section (λ u i. c.in_ok-section.ensures.kept b h k u i) e
