-- The words that are printed for the causes that refuse a line of a deck.
use Rattle.std.specs.Prelude.{ℕ, List, codes}
use Rattle.model_card.specs.Words.{unit_word}
use Rattle.model_text.specs.AsmWords.{asm_word}
use Rattle.model_play.specs.declared.deck.DeckCause.{DeckCause}
use Rattle.model_play.specs.declared.deck.DeckCause.TheVariants as deck

-- the printed word of why a line of a deck is refused: that of the cause inside, if there is one
abbrev pub deck_word : DeckCause → List ℕ
deck_word deck.TooManyLines = codes "TooManyLines"
deck_word deck.BadLine = codes "BadLine"
deck_word deck.BadName = codes "BadName"
deck_word deck.BadHex = codes "BadHex"
deck_word deck.BadNumber = codes "BadNumber"
deck_word deck.OutOfRange = codes "OutOfRange"
deck_word deck.NameTwice = codes "NameTwice"
deck_word deck.UnknownName = codes "UnknownName"
deck_word deck.LateLine = codes "LateLine"
deck_word deck.NoEnd = codes "NoEnd"
deck_word (deck.Unit cause) = unit_word cause
deck_word (deck.Asm cause) = asm_word cause
