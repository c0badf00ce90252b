-- Two decks of a counter and a stranger, which differ in what the stranger is sent and in how often power goes.
use Rattle.std.specs.Prelude.{ℕ, List, [], ◌∷◌, ◌++◌, length}
use Rattle.law_family.specs.model_device.specs.Card.{blocks_from, apps_of}
use Rattle.law_family.specs.model_device.specs.Image.{targets_1, targets_2, pairs}
use Rattle.law_family.specs.model_device.specs.Layout.{layout, step_of, bad_block, bad_record}
use Rattle.law_family.specs.model_device.specs.Pieces.{touched_words}
use Rattle.law_family.specs.model_machine.specs.Apdu.{apdu_read}
use Rattle.law_family.specs.model_machine.specs.Chain.{turn_of_chain, run_of_chain}
use Rattle.law_family.specs.model_machine.specs.Frame.{bytes_at, write_effect, too_many}
use Rattle.law_family.specs.model_machine.specs.Primitives.{later_causes, prim_effect}
use Rattle.law_family.specs.model_machine.specs.Row.{causes, effect, row}
use Rattle.law_family.specs.model_card.specs.Commands.{command}
use Rattle.law_family.specs.model_card.specs.Manager.{manage}
use Rattle.law_family.specs.model_card.specs.Units.{name_of}
use Rattle.law_family.specs.model_play.specs.DeckGrammar.{DeckLine}
use Rattle.law_family.specs.model_play.specs.DeckGrammar as line
use Rattle.law_family.specs.model_play.specs.Given.{Event, events, given_of_play}
use Rattle.law_family.specs.model_play.specs.Play.{moves_of, play_at_power, plays, send, start, steady_failures, step}
use Rattle.law_family.specs.model_play.specs.Solo.{hears, solo_command}
use Rattle.law_family.specs.Worked.{blank, count, counter, first, second}
use Rattle.law_closed.specs.Needed.{needed, needed_of}

-- the counter of the family, and the stranger's
abbrev pub both_loaded : List (ℕ × DeckLine)
both_loaded = (1, line.Format) ∷ (2, line.Power) ∷ (3, line.Sent (line.Load (counter first) 2 0)) ∷ (4, line.Sent (line.Load (counter second) 2 0)) ∷ []

-- the stranger is selected once, between two sessions of the family
abbrev pub quiet_stranger : List (ℕ × DeckLine)
quiet_stranger =
    both_loaded ++ (5, line.Sent (line.Select first)) ∷ (6, count) ∷ (7, line.Sent (line.Select second)) ∷ (8, line.Sent (line.Select first)) ∷ (9, count) ∷ []

-- it is selected three times and counts twice, and power goes twice
abbrev pub busy_stranger : List (ℕ × DeckLine)
busy_stranger =
    both_loaded ++ (5, line.Power) ∷ (6, line.Sent (line.Select second)) ∷ (7, count) ∷ (8, line.Sent (line.Select first)) ∷ (9, count) ∷ (10, line.Sent (line.Select second)) ∷ (11, count)
    ∷ (12, line.Sent (line.Select second)) ∷ (13, line.Power) ∷ (14, line.Sent (line.Select first)) ∷ (15, count) ∷ []

-- the events that the family is given, and those that it needs
unfoldable pub needed_in : List (ℕ × DeckLine) → List Event
unfolding name_of apdu_read touched_words targets_1 targets_2 pairs blocks_from apps_of layout step_of bad_block bad_record bytes_at write_effect too_many later_causes prim_effect causes effect row turn_of_chain run_of_chain manage command send play_at_power step plays moves_of steady_failures events solo_command hears needed
needed_in ls = (needed_of (given_of_play (first ∷ []) (plays (start blank) ls (steady_failures (start blank) ls)))).events

-- how many they are
unfoldable pub count_given : List (ℕ × DeckLine) → ℕ
unfolding name_of apdu_read touched_words targets_1 targets_2 pairs blocks_from apps_of layout step_of bad_block bad_record bytes_at write_effect too_many later_causes prim_effect causes effect row turn_of_chain run_of_chain manage command send play_at_power step plays moves_of steady_failures events
count_given ls = length (given_of_play (first ∷ []) (plays (start blank) ls (steady_failures (start blank) ls))).events
