-- Computed chains: what a counter holds after a chain of stops.
use Rattle.std.specs.Prelude.{ℕ, List, [], ◌∷◌, ◌++◌, replicate, codes, Option, Result, Ok, Err, option_map}
use Rattle.model_play.specs.declared.deck.DeckCause.{DeckCause}
use Rattle.model_play.specs.model_device.specs.declared.device.Stop.{Stop}
use Rattle.model_play.specs.model_device.specs.Bytes.{zeros, lookup}
use Rattle.model_play.specs.model_device.specs.Card.{blocks_from, apps_of}
use Rattle.model_play.specs.model_device.specs.Pieces.{touched_words}
use Rattle.model_play.specs.model_device.specs.Image.{targets_1, targets_2, pairs}
use Rattle.model_play.specs.model_device.specs.Layout.{layout, step_of, bad_block, bad_record}
use Rattle.model_play.specs.model_card.specs.Units.{name_of}
use Rattle.model_play.specs.model_card.specs.Items.{StopAt}
use Rattle.model_play.specs.model_machine.specs.Apdu.{apdu_read}
use Rattle.model_play.specs.model_machine.specs.Frame.{bytes_at, write_effect, too_many}
use Rattle.model_play.specs.model_machine.specs.Primitives.{later_causes, prim_effect}
use Rattle.model_play.specs.model_machine.specs.Row.{causes, effect, row}
use Rattle.model_play.specs.model_machine.specs.Chain.{turn_of_chain, run_of_chain}
use Rattle.model_play.specs.model_card.specs.Manager.{manage}
use Rattle.model_play.specs.model_card.specs.Commands.{command}
use Rattle.model_play.specs.DeckGrammar.{DeckLine, deck_read}
use Rattle.model_play.specs.DeckGrammar as line
use Rattle.model_play.specs.Given.{apps_in}
use Rattle.model_play.specs.Play.{State, start, send, play_at_power, step, plays, moves_of, steady_failures, last_state}
use Rattle.law_recovery.specs.Chains.{after_chain, after_stops}

-- the counter of `examples/counter.deck`, loaded and selected on a small device
abbrev pub counter : List ℕ
counter =
    codes "format\npower\nunit counter 0000000000000000000FB902000039020000460200000600020000"
    ++ codes "000961074F05A00000000100096F078405A00000000100000000\nload counter 2 0\nselect A000000001\n"

-- the state after the lines of a deck that was read
abbrev pub state_after : Result (List (ℕ × DeckLine)) (ℕ × DeckCause) → State
state_after (Ok ls) = let z = start (replicate 512 (zeros 8)) in last_state z (plays z ls (steady_failures z ls))
state_after (Err e) = start []

-- a stop
abbrev pub stop_at : Stop → ℕ → List ℕ → StopAt
stop_at kind k x = record { kind = kind; at = k; left = x }

-- what the counter holds if a stop hits its command, and stops the power lines after it
unfoldable pub counted : StopAt → List StopAt → Option (List ℕ)
unfolding deck_read name_of apdu_read touched_words targets_1 targets_2 pairs blocks_from apps_of layout step_of bad_block bad_record bytes_at write_effect too_many later_causes prim_effect causes effect row turn_of_chain run_of_chain manage command send play_at_power step plays moves_of steady_failures after_stops
counted t ts =
    let z = state_after (deck_read counter) in
    let count : ℕ × DeckLine = (8, line.Sent (line.Apdu (0x80 ∷ 0x01 ∷ 0 ∷ 0 ∷ 2 ∷ []))) in
    option_map (λ a. a.fixed) (lookup (apps_in (after_chain 9 z count t ts)) (0xA0 ∷ 0 ∷ 0 ∷ 0 ∷ 1 ∷ []))
