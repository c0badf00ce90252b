use Rattle.std.proofs.Common.{ℕ, List, ◌<◌, length, ap, ◌∙◌, sym, subst}
use Rattle.model_play.specs.DeckGrammar.{DeckLine}
use Rattle.mc_deck.specs.Lines.{grammar_line, GoodLine}
use Rattle.mc_deck.proofs.LineLemmas.{good_in}
use Rattle.mc_deck.proofs.deck.Deck.line.Goals as goal

pub returns-clause-good : goal.returns-clause-good
returns-clause-good c =
    let us = c.self.inside.units.items in
    let lt = subst (λ (v : List (ℕ × DeckLine)). c.args.i < length v) (sym c.self.view_is) c.requires in
    let good = good_in us c.self.inside.lines.items c.args.i c.index.result.now lt c.self.invariant.deck.ranges in
    subst GoodLine (sym (c.borrowed_line.ensures ∙ ap (λ u. grammar_line u c.index.result.now.1) c.as_slice.ensures.value ∙ ap (λ (l : _). grammar_line us l.1) c.index.ensures)) good
