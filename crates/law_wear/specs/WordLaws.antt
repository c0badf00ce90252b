-- The laws of the wear of one word: in the items of a line, and in a play.
use Rattle.std.specs.Prelude.{◌≡◌, ℕ, ◌+◌, ◌≤◌, List, length, take, Option}
use Rattle.law_family.specs.model_device.specs.Device.{IsImage}
use Rattle.law_family.specs.model_card.specs.Items.{Item, moves}
use Rattle.law_family.specs.model_play.specs.DeckGrammar.{DeckLine}
use Rattle.law_family.specs.model_play.specs.Play.{FailedWrite, plays, start, Possible}
use Rattle.law_family.specs.model_play.specs.ReadyAgain.{AreLines}
use Rattle.law_wear.specs.Laws.{atomic_writes, times_written}
use Rattle.law_wear.specs.OfWord.{MadeOf, MadeByPlay, most_by_atomic, most_by_plain, most_of_word, plain_writes}

-- how often the device writes of items write each word
pub record WearsWords (is : List Item) (ws : List (ℕ × List ℕ)) : Type 0 where
  -- their number is that of the items
  pub count : length ws ≡ moves is
  -- the gate twice for each atomic write, another word once for each, and a word of the heap once more for each plain one
  pub each : (p : ℕ) → times_written p ws ≤ most_by_atomic p (atomic_writes is) + most_by_plain p (plain_writes is)

-- Items write the gate twice for each atomic write, any other word once for each, and a word of the heap once more for
-- each plain write, at the most.
abbrev pub ItemWearLaw : Type 0
ItemWearLaw = (size : ℕ) (is : List Item) (ws : List (ℕ × List ℕ)) → size ≤ 16384 → MadeOf size is ws → WearsWords is ws

-- The law of the wear of a word. For every deck whose lines are bytes, every image and every possible list of failed
-- writes, for every front of the play and for every list of device writes that it may make: no word is written more
-- often than the sum of what its lines write it at the most.
abbrev pub WordWearLaw : Type 0
WordWearLaw =
    (ls : List (ℕ × DeckLine)) (m : List (List ℕ)) (ws : List (Option FailedWrite)) → Possible (start m) ls ws → IsImage m
    → (n : ℕ) → let steps = take n (plays (start m) ls ws) in AreLines steps
    → (made : List (ℕ × List ℕ)) → MadeByPlay (length m) steps made → (p : ℕ) → times_written p made ≤ most_of_word p steps
