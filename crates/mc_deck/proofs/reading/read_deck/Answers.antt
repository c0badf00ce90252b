use Rattle.std.proofs.Common.{◌≡◌, ◌+◌, arith, ℕ, List, Bor, [], false, Ok, sym, ap, subst, ◌∙◌}
use Rattle.std.specs.Prelude.{option_map}
use Rattle.model_play.specs.model_text.specs.Text.{lines, with_numbers}
use Rattle.model_play.specs.DeckGrammar.{Context, Mode, Between, deck_lines, deck_read}
use Rattle.law_family.proofs.DeckBytes.{read_lines_law}
use Rattle.mc_deck.specs.Readers.{lines_of, mode_of}
use Rattle.mc_deck.proofs.TurnLemmas.{left_lines, first_stands, first_lines, line_read, line_refused, lines_done, ended_none, ended_some, still_few}
use Rattle.mc_deck.proofs.reading.read_deck.Goals as goal

pub loop-line-init : goal.loop-line-init
loop-line-init c =
    let first : Context = record { units = []; powered = false } in
    record {
      leads = (first, first_stands c.no_names.result.places c.no_names.result.units.items c.new.result.items c.no_names.ensures.names c.no_names.ensures.units c.new.ensures.items, first_lines c.no_names.result.units.items c.new.result.items (Between first) 1 c.args.text.now c.new.ensures.items);
      few = omega arith;
    }

pub loop-line-preserved : goal.loop-line-preserved
loop-line-preserved c =
    let leads = c.loop-line.invariant.leads in
    let whole = deck_lines (Between (record { units = []; powered = false })) (with_numbers 1 (lines c.args.text.now)) in
    let n = c.loop-line.number + 1 in
    let next = ap (option_map (λ (l : Bor (List ℕ) × Bor (List ℕ)). (l.0.now, l.1.now))) (sym c.in-Some.is) ∙ c.next_line.ensures.line in
    let turned = c.in-Ok.ensures.turned leads.0 leads.1 in
    let behind = line_read (lines_of c.loop-line.reader) (lines_of c.turn.new.reader) (mode_of c.loop-line.section leads.0) turned.turn n c.loop-line.rest.now c.in-Some.line.now c.in-Some.behind.now whole next turned.is turned.took.lines leads.2 in
    record {
      leads = (turned.took.context, turned.took.stands, subst (λ (m : Mode). left_lines (lines_of c.turn.new.reader) m (n + 1) c.in-Some.behind.now ≡ whole) turned.took.mode behind);
      few = still_few c.loop-line.number c.loop-line.invariant.few c.in-Ok.ensures.few;
    }

pub returns-in-Err-clause-refused : goal.returns-in-Err-clause-refused
unfolding deck_read
returns-in-Err-clause-refused c =
    let leads = c.loop-line.invariant.leads in
    let whole = deck_lines (Between (record { units = []; powered = false })) (with_numbers 1 (lines c.args.text.now)) in
    let next = ap (option_map (λ (l : Bor (List ℕ) × Bor (List ℕ)). (l.0.now, l.1.now))) (sym c.in-Some.is) ∙ c.next_line.ensures.line in
    line_refused (lines_of c.loop-line.reader) (mode_of c.loop-line.section leads.0) (c.loop-line.number + 1) c.loop-line.rest.now c.in-Some.line.now c.in-Some.behind.now whole c.in-Err.refusal next (c.in-Err.ensures.turned leads.0 leads.1) leads.2

pub deck_of-requires-clause-bytes : goal.deck_of-requires-clause-bytes
unfolding deck_read
deck_of-requires-clause-bytes c =
    let leads = c.loop-line.invariant.leads in
    let whole = deck_lines (Between (record { units = []; powered = false })) (with_numbers 1 (lines c.args.text.now)) in
    let next = ap (option_map (λ (l : Bor (List ℕ) × Bor (List ℕ)). (l.0.now, l.1.now))) (sym c.in_default.is) ∙ c.next_line.ensures.line in
    read_lines_law c.args.text.now (lines_of c.loop-line.reader)
    (lines_done (lines_of c.loop-line.reader) (mode_of c.loop-line.section leads.0) (c.loop-line.number + 1) c.loop-line.rest.now whole next leads.2 ∙ ended_none (lines_of c.loop-line.reader) leads.0 c.loop-line.section c.in-None.is)

pub returns-in-None-clause-lines : goal.returns-in-None-clause-lines
unfolding deck_read
returns-in-None-clause-lines c =
    let leads = c.loop-line.invariant.leads in
    let whole = deck_lines (Between (record { units = []; powered = false })) (with_numbers 1 (lines c.args.text.now)) in
    let next = ap (option_map (λ (l : Bor (List ℕ) × Bor (List ℕ)). (l.0.now, l.1.now))) (sym c.in_default.is) ∙ c.next_line.ensures.line in
    lines_done (lines_of c.loop-line.reader) (mode_of c.loop-line.section leads.0) (c.loop-line.number + 1) c.loop-line.rest.now whole next leads.2
    ∙ ended_none (lines_of c.loop-line.reader) leads.0 c.loop-line.section c.in-None.is ∙ ap Ok (sym c.deck_of.ensures)

pub returns-in-Some-section-clause-refused : goal.returns-in-Some-section-clause-refused
unfolding deck_read
returns-in-Some-section-clause-refused c =
    let leads = c.loop-line.invariant.leads in
    let whole = deck_lines (Between (record { units = []; powered = false })) (with_numbers 1 (lines c.args.text.now)) in
    let next = ap (option_map (λ (l : Bor (List ℕ) × Bor (List ℕ)). (l.0.now, l.1.now))) (sym c.in_default.is) ∙ c.next_line.ensures.line in
    lines_done (lines_of c.loop-line.reader) (mode_of c.loop-line.section leads.0) (c.loop-line.number + 1) c.loop-line.rest.now whole next leads.2
    ∙ ended_some (lines_of c.loop-line.reader) leads.0 c.loop-line.section c.in-Some-section.section c.in-Some-section.is
