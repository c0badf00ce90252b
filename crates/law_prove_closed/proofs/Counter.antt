-- The tables of the counter are closed, by computation.
use Rattle.std.proofs.Common.{◌≡◌, true, refl}
use Rattle.law_prove_closed.specs.Computed.{counter_deck}
use Rattle.law_prove_closed.specs.Decks.{proves_deck, DeckIsKept}
use Rattle.law_prove_closed.proofs.Decks.{deck_law}

proved : proves_deck 800 counter_deck ≡ true
unfolding proves_deck
proved = refl

-- the rules of the counter are kept in every play of its deck
pub counter_kept : DeckIsKept counter_deck
counter_kept = deck_law 800 counter_deck proved
