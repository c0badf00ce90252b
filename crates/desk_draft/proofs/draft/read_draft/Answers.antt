use Rattle.std.proofs.Common.{◌≡◌, ◌≤◌, ℕ, List, [], length, Ok, Result, ap, subst, sym, rules, ◌∙◌}
use Rattle.mc_deck.specs.model_play.specs.declared.deck.DeckCause.{DeckCause}
use Rattle.mc_deck.specs.declared.refusal.DeckRefusal.{DeckRefusal}
use Rattle.mc_deck.specs.Refused.{DeckRefuses}
use Rattle.desk_draft.specs.declared.draft.Section.{Section}
use Rattle.desk_draft.specs.Written.{Each, IsSection}
use Rattle.desk_draft.specs.Drafts.{Draft, draft_read, nothing_before}
use Rattle.desk_draft.specs.Views.{gives_later_each, line_texts, refusal_at}
use Rattle.desk_draft.proofs.DraftLemmas.{left_draft}
use Rattle.desk_draft.proofs.ReadLemmas.{draft_is, draft_done, draft_refused, draft_taken, judged_length, numbered}
use Rattle.desk_draft.proofs.WrittenLemmas.{sections_are}
use Rattle.desk_draft.proofs.draft.read_draft.Goals as goal

pub loop-i-init : goal.loop-i-init
loop-i-init c =
    let same : c.as_slice.result.now ≡ c.in_ok-lines.lines.items = search rules in
    let none : c.new-2.result.items ≡ [] = search rules in
    record {
      leads = record { before = nothing_before; stands = record { knows = c.nothing_known.ensures; mode = tt }; keeps = record { ended = subst (λ (x : List Section). Each (IsSection c.new.result.items) x []) (sym none) tt; lines = tt }; left = search rules };
      judged = judged_length c.in_ok-lines.lines.items c.in_ok-later.later.items (c.in_ok-later.ensures ∙ ap (λ ls. gives_later_each (line_texts ls)) same);
    }

pub returns-in-Err-clause-refused : goal.returns-in-Err-clause-refused
returns-in-Err-clause-refused c =
    let ls = c.in_ok-lines.lines.items in
    let same : c.as_slice.result.now ≡ c.in_ok-lines.lines.items = search rules in
    let leads = c.loop-i.invariant.leads in
    let due = draft_refused c.loop-i.writer.deck.items c.turn.new.writer.deck.items ls c.in_ok-later.later.items c.loop-i.i c.in_ok-number.number c.line_at-line.result c.later_at-gives.result c.turn.new.writer.known leads.before (left_draft [] nothing_before (numbered ls)) c.turn.result c.in-Err.fault
    (c.in_ok-later.ensures ∙ ap (λ ls. gives_later_each (line_texts ls)) same) c.line_at-line.ensures c.later_at-gives.ensures c.in_ok-number.ensures.value c.in-Err.is (c.turn.ensures.turned leads.before leads.stands) leads.left in
    subst (λ (e : DeckRefusal). DeckRefuses (draft_read c.args.draft.now) e) (sym c.refused.ensures)
    (subst (λ (w : Result Draft (ℕ × DeckCause)). DeckRefuses w (refusal_at c.in_ok-number.number c.in-Err.fault)) (sym (draft_is c.args.draft.now ls c.in_ok-lines.ensures)) due)

pub loop-i-preserved : goal.loop-i-preserved
loop-i-preserved c =
    let ls = c.in_ok-lines.lines.items in
    let same : c.as_slice.result.now ≡ c.in_ok-lines.lines.items = search rules in
    let leads = c.loop-i.invariant.leads in
    record {
      leads =
          draft_taken c.loop-i.writer.deck.items c.turn.new.writer.deck.items ls c.in_ok-later.later.items c.loop-i.i c.in_ok-number.number c.line_at-line.result c.later_at-gives.result c.turn.new.writer.known c.turn.new.writer.sections.items c.in-Ok.next leads.before (left_draft [] nothing_before (numbered ls)) c.turn.result
          (c.in_ok-later.ensures ∙ ap (λ ls. gives_later_each (line_texts ls)) same) c.line_at-line.ensures c.later_at-gives.ensures c.in_ok-number.ensures.value c.in-Ok.is (c.turn.ensures.turned leads.before leads.stands) (c.turn.ensures.kept leads.before leads.stands leads.keeps) leads.left;
      judged = c.loop-i.invariant.judged;
    }

pub returns-clause-draft : goal.returns-clause-draft
returns-clause-draft c =
    let ls = c.in_ok-lines.lines.items in
    let deck = c.loop-i.writer.deck.items in
    let all : length c.in_ok-lines.lines.items ≤ c.loop-i.i = search rules in
    let leads = c.loop-i.invariant.leads in
    draft_is c.args.draft.now ls c.in_ok-lines.ensures
    ∙ draft_done deck ls c.loop-i.i leads.before (left_draft [] nothing_before (numbered ls)) all leads.left
    ∙ ap (λ (x : List _). Ok (record { deck = deck; sections = x })) (sym (sections_are deck c.loop-i.writer.sections.items leads.before.sections leads.keeps.ended))
