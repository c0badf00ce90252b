use Rattle.std.proofs.Common.{◌≡◌, true, false, ap, sym, ◌∙◌, rules, take}
use Rattle.law_explore.specs.model_play.specs.Play.{is_card_line}
use Rattle.law_explore.specs.model_play.specs.DeckGrammar as line
use Rattle.mc_deck.specs.Lines.{line_of}
use Rattle.mc_lab.specs.SweepBodies.{line_at}
use Rattle.mc_lab.proofs.SweepDecks.{shut_card, shut_armed, open_both}
use Rattle.mc_lab.proofs.SweepPlayers.{got_or}
use Rattle.mc_lab.proofs.sweeping.open_number.Goals as goal

pub returns-then-not-is_card_line : goal.returns-then-not-is_card_line
returns-then-not-is_card_line c =
    let ls = c.args.deck.now in
    let at = c.args.at in
    let l = c.line-number.result in
    let here = got_or ls at (0, line.Named) (l.0, line_of l.1) c.line-number.ensures.line in
    let no_card : c.is_card_line.result ≡ false = search rules in
    shut_card (take at ls) (line_at ls at) (ap (λ (x : _). is_card_line x.1) here ∙ sym c.is_card_line.ensures ∙ no_card)

pub returns-then-not-is_free : goal.returns-then-not-is_free
returns-then-not-is_free c =
    let armed : c.is_free.result ≡ false = search rules in
    shut_armed (take c.args.at c.args.deck.now) (line_at c.args.deck.now c.args.at) (sym c.is_free.ensures ∙ armed)

pub returns : goal.returns
returns c =
    let ls = c.args.deck.now in
    let at = c.args.at in
    let l = c.line-number.result in
    let here = got_or ls at (0, line.Named) (l.0, line_of l.1) c.line-number.ensures.line in
    let card : c.is_card_line.result ≡ true = search rules in
    let free : c.is_free.result ≡ true = search rules in
    (open_both (take at ls) (line_at ls at) (ap (λ (x : _). is_card_line x.1) here ∙ sym c.is_card_line.ensures ∙ card) (sym c.is_free.ensures ∙ free), sym (ap (λ (x : _). x.0) here))
