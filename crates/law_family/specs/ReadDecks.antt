-- A deck that was read carries bytes, so that its plays need no premise on their lines.
use Rattle.std.specs.Prelude.{◌≡◌, ℕ, false, List, take, Option, Ok}
use Rattle.std.specs.List.{AllByRecursion}
use Rattle.model_play.specs.model_device.specs.Device.{IsImage}
use Rattle.model_play.specs.DeckGrammar.{DeckLine, deck_read}
use Rattle.model_play.specs.Play.{FailedWrite, plays, start}
use Rattle.model_play.specs.ReadyAgain.{AllFitJournal, IsLine, ReadyAgain}

-- what each line of a deck that was read carries is bytes
abbrev pub ReadLinesLaw : Type 0
ReadLinesLaw = (text : List ℕ) (ls : List (ℕ × DeckLine)) → deck_read text ≡ Ok ls → AllByRecursion (λ l. IsLine l.1) ls

-- In every play of a deck that was read, from the words of a device, each item touches at most 64 words, and a card
-- that was found or formatted is found by every later power line that no stop hits.
abbrev pub ReadDecksLaw : Type 0
ReadDecksLaw =
    (text : List ℕ) (ls : List (ℕ × DeckLine)) (m : List (List ℕ)) (ws : List (Option FailedWrite)) → deck_read text ≡ Ok ls → IsImage m
    → (n : ℕ) → AllFitJournal (take n (plays (start m) ls ws)) × ReadyAgain false (take n (plays (start m) ls ws))
