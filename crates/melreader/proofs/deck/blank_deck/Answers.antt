use Rattle.melreader.proofs.DeckLemmas.{blank_has}
use Rattle.melreader.proofs.deck.blank_deck.Goals as goal

pub returns : goal.returns
returns c = blank_has c.deck_of.result c.deck_of.ensures.deck c.deck_of.ensures.rejected
