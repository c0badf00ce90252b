-- What computed images mean, and what decks show over them on a device that refuses writes.
use Rattle.std.specs.Prelude.{ℕ, cond, ◌==◌, List, [], ◌∷◌, ◌++◌, codes, replicate, slice_set, Option, Some, None, Result, Ok, Err}
use Rattle.model_play.specs.model_device.specs.Bytes.{zeros}
use Rattle.model_play.specs.model_device.specs.Card.{blocks_from, apps_of}
use Rattle.model_play.specs.model_device.specs.Image.{Two, gate, opening, targets_1, targets_2, pairs}
use Rattle.model_play.specs.model_device.specs.Layout.{bad_block, bad_record, fault, layout, step_of}
use Rattle.model_play.specs.model_device.specs.Pieces.{touched_words}
use Rattle.model_play.specs.model_device.specs.PowerUp.{base_of, Base}
use Rattle.model_play.specs.model_device.specs.Stopped.{four_targets, word_of_number}
use Rattle.model_play.specs.model_machine.specs.Apdu.{apdu_read}
use Rattle.model_play.specs.model_machine.specs.Chain.{turn_of_chain, run_of_chain}
use Rattle.model_play.specs.model_machine.specs.Frame.{bytes_at, write_effect, too_many}
use Rattle.model_play.specs.model_machine.specs.Primitives.{later_causes, prim_effect}
use Rattle.model_play.specs.model_machine.specs.Row.{causes, effect, row}
use Rattle.model_play.specs.model_card.specs.Commands.{command}
use Rattle.model_play.specs.model_card.specs.Manager.{manage}
use Rattle.model_play.specs.model_card.specs.Units.{name_of}
use Rattle.model_play.specs.declared.deck.DeckCause.{DeckCause}
use Rattle.model_play.specs.DeckGrammar.{DeckLine, deck_read}
use Rattle.model_play.specs.Play.{LineResult, Step, formatted_image, moves_of, play_at_power, plays, send, step}
use Rattle.law_residual.specs.Refusals.{Refusals, failures_on, play_on}

-- a small device that was formatted: one hole from word 131 on, and journals that are shut
abbrev pub formatted : List (List ℕ)
formatted = formatted_image (replicate 256 (zeros 8))

-- what it means with another word at this place
unfoldable pub meaning_with : ℕ → List ℕ → Base
unfolding targets_1 targets_2 pairs blocks_from apps_of bad_block bad_record layout
meaning_with at word = let m = slice_set formatted at word in base_of (fault m) m

-- ---- decks on a device that refuses writes

-- the same card with another word in its hole
abbrev pub used_before : List (List ℕ)
used_before = slice_set formatted 250 (replicate 8 0x5A)

-- the same card with an open journal, whose recovery has two writes to make: word 250, and the gate
abbrev pub still_open : List (List ℕ)
still_open = slice_set (slice_set (slice_set (slice_set used_before 19 (zeros 8)) 3 (four_targets (250 ∷ []))) 2 (word_of_number 1)) (gate Two) (opening Two)

-- a device that refuses write n alone, and leaves zeros
abbrev pub refuses_write : ℕ → Refusals
refuses_write n k = cond (k == n) (Some (zeros 8)) None

-- the counter of `examples/counter.deck`, loaded, which takes 21 device writes, and selected; its command takes six
abbrev pub counter_deck : List ℕ
counter_deck =
    codes "power\nunit counter 0000000000000000000FB902000039020000460200000600020000"
    ++ codes "000961074F05A00000000100096F078405A00000000100000000\nload counter 2 0\nselect A000000001\napdu 8001000002\n"

-- the lines of a deck that was read
abbrev pub lines_of : Result (List (ℕ × DeckLine)) (ℕ × DeckCause) → List (ℕ × DeckLine)
lines_of (Ok ls) = ls
lines_of (Err e) = []

-- a result, if a line has one, before others
abbrev pub with_result : Option LineResult → List LineResult → List LineResult
with_result None rs = rs
with_result (Some r) rs = r ∷ rs

-- the results of lines
abbrev pub results : List Step → List LineResult
results [] = []
results (t ∷ ts) = with_result t.result (results ts)

-- what the counter's deck answers over an image on such a device
unfoldable pub shown_on : Refusals → List (List ℕ) → List LineResult
unfolding deck_read name_of apdu_read touched_words targets_1 targets_2 pairs blocks_from apps_of layout step_of bad_block bad_record bytes_at write_effect too_many later_causes prim_effect causes effect row turn_of_chain run_of_chain manage command send play_at_power step plays moves_of failures_on
shown_on r m = results (play_on r m (lines_of (deck_read counter_deck)))
