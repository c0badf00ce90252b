-- The deck in a source, and that of a blank card.
use Rattle.std.proofs.Common.{◌≡◌, ℕ, List, None, codes, Result, Ok, Err, IfOk, IfErr, refl, ap, sym, subst, ◌∙◌}
use Rattle.mc_deck.specs.model_play.specs.DeckGrammar.{DeckLine, deck_lines, deck_read}
use Rattle.mc_deck.specs.model_play.specs.declared.deck.DeckCause.{DeckCause}
use Rattle.mc_filter.specs.Inputs.{refused_deck, Rejects}
use Rattle.mc_filter.specs.declared.rejection.Rejection.{Rejection}
use Rattle.mc_filter.specs.declared.rejection.Rejection.TheVariants as rejection
use Rattle.melreader.specs.Decks.{blank_deck, lines_or_refusal, HasDeck}

-- the line that refuses a deck is the verdict on the deck
refused_is : (r : Result (List (ℕ × DeckLine)) (ℕ × DeckCause)) (line : List ℕ) → refused_deck r line → Err line ≡ lines_or_refusal r
refused_is (Ok lines) line why = absurd why
refused_is (Err e) line why = ap Err why

-- the text `format` is read as the one line
blank_read : deck_read (codes "format") ≡ Ok blank_deck
unfolding deck_read deck_lines
blank_read = refl

-- it spells the deck of a blank card
pub blank_has : (r : Result (List (ℕ × DeckLine)) Rejection) → IfOk r (λ d. deck_read (codes "format") ≡ Ok d)
    → IfErr r (Rejects (refused_deck (deck_read (codes "format")))) → HasDeck None None r
blank_has (Ok lines) is why = ap lines_or_refusal (sym is ∙ blank_read)
blank_has (Err (rejection.Refusal line)) is why = absurd (subst (λ r. refused_deck r line.items) blank_read why)
blank_has (Err rejection.ReadFault) is why = absurd why
blank_has (Err rejection.NoMemory) is why = tt
