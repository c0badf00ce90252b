-- What a word that fails for ever costs.
use Rattle.std.specs.Prelude.{◌≡◌, ℕ, ◌<◌, ◌≤◌, false, List, [], length, bytes_eq, Some, None}
use Rattle.model_play.specs.model_device.specs.Image.{count_of_recovery_writes, opening, which}
use Rattle.model_play.specs.model_device.specs.Card.{means}
use Rattle.model_play.specs.model_device.specs.Layout.{IsWellLaid}
use Rattle.model_play.specs.model_device.specs.PowerUp.{base_after_migration, pending_journal}
use Rattle.model_play.specs.Play.{Unarmed, Warm, StandsForBase, hit_of, power_moves, power_says}
use Rattle.mc_store.specs.Power.{base_of_words, power_count, power_writes}
use Rattle.mc_dead_word.specs.Powers.{after_power, after_powers, answer_by, failure_by, stops_at}

-- a device of 256 to 16,384 words
pub record IsDevice (m : List (List ℕ)) : Type 0 where
  pub low : 256 ≤ length m
  pub high : length m ≤ 16384

-- ---- one card

-- However often a device is powered one word of which refuses every write, and whatever is left in that word each time:
-- the words hold the card that they held at first, in layout 1 or 2, or the same first fault.
abbrev pub OneCardLaw : Type 0
OneCardLaw =
    (m : List (List ℕ)) → IsDevice m → (p : ℕ) (xs : List (List ℕ))
    → base_after_migration (base_of_words (after_powers p xs m)) ≡ base_after_migration (base_of_words m)

-- ---- which cards are read

-- words that hold a card of layout 2, with no recovery left
pub record IsSettled (m : List (List ℕ)) : Type 0 where
  pub sound : IsWellLaid m
  pub layout : (means m).layout ≡ 2
  pub nothing_left : count_of_recovery_writes m ≡ 0

-- a power-up that writes nothing: whichever word fails, it is not stopped, leaves the words, and answers `ready 0`
pub record IsRead (m : List (List ℕ)) : Type 0 where
  pub writes : power_writes m ≡ []
  pub count : power_count m ≡ 0
  pub unstopped : (p : ℕ) → stops_at p m ≡ None
  pub stays : (p : ℕ) (x : List ℕ) → after_power p x m ≡ m

-- which cards are read whichever word fails
pub record SettlesFor (m : List (List ℕ)) : Type 0 where
  -- a settled one
  pub read : IsSettled m → IsRead m
  -- a power-up that does not write the failing word leaves a settled card
  pub after : (p : ℕ) (x : List ℕ) → IsWellLaid m → stops_at p m ≡ None → IsSettled (after_power p x m)
  -- so does one of a card of layout 2 that stops at the last write of its recovery, which shuts the gate, unless the gate
  -- is left with the word that opens it
  pub gate : (p : ℕ) (x : List ℕ) → IsWellLaid m → (means m).layout ≡ 2 → stops_at p m ≡ Some (count_of_recovery_writes m) → bytes_eq x (opening (pending_journal (which m))) ≡ false
      → IsSettled (after_power p x m)

-- A settled card is read whichever word fails, and these power-ups leave one.
abbrev pub SettledLaw : Type 0
SettledLaw = (m : List (List ℕ)) → IsDevice m → SettlesFor m

-- ---- which are not

-- If a power-up stops at a write of its recovery but the last, which shuts the gate, each later one stops at the same
-- write: until the word is written the card is not read, and no other is.
abbrev pub StuckLaw : Type 0
StuckLaw =
    (m : List (List ℕ)) → IsDevice m → (p k : ℕ) → stops_at p m ≡ Some k → k < count_of_recovery_writes m → (xs : List (List ℕ))
    → stops_at p (after_powers p xs m) ≡ Some k

-- ---- what `power` answers

-- The power line of a play whose base the words hold, with no stop armed, answers 6581 if the power-up writes the
-- failing word, and else `ready` with the number of its writes, or the first fault.
abbrev pub AnswerLaw : Type 0
AnswerLaw =
    (m : List (List ℕ)) (s : Warm) → StandsForBase m s.base s → (p : ℕ) (x : List ℕ)
    → power_says s (hit_of Unarmed (power_moves s) (failure_by (stops_at p m) x)) ≡ answer_by (stops_at p m) m
