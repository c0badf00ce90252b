-- The text of a sweep of a deck's text.
use Rattle.std.specs.Prelude.{ℕ, List, ◌++◌, codes, Result, Ok, Err}
use Rattle.std.specs.Fmt.{digits}
use Rattle.law_explore.specs.model_play.specs.declared.deck.DeckCause.{DeckCause}
use Rattle.law_explore.specs.model_card.specs.Units.{name_of}
use Rattle.law_explore.specs.model_machine.specs.Apdu.{apdu_read}
use Rattle.law_explore.specs.model_device.specs.Pieces.{touched_words}
use Rattle.law_explore.specs.model_device.specs.Image.{targets_1, targets_2, pairs}
use Rattle.law_explore.specs.model_device.specs.Card.{blocks_from, apps_of}
use Rattle.law_explore.specs.model_device.specs.Layout.{layout, step_of, bad_block, bad_record}
use Rattle.law_explore.specs.model_machine.specs.Frame.{bytes_at, write_effect, too_many}
use Rattle.law_explore.specs.model_machine.specs.Primitives.{later_causes, prim_effect}
use Rattle.law_explore.specs.model_machine.specs.Row.{causes, effect, row}
use Rattle.law_explore.specs.model_machine.specs.Chain.{turn_of_chain, run_of_chain}
use Rattle.law_explore.specs.model_card.specs.Manager.{manage}
use Rattle.law_explore.specs.model_card.specs.Commands.{command}
use Rattle.law_explore.specs.model_play.specs.Play.{send, play_at_power, step, plays, moves_of, steady_failures}
use Rattle.law_explore.specs.model_play.specs.DeckGrammar.{DeckLine, deck_read}
use Rattle.mc_lab.specs.declared.remark.Mark.TheVariants as mark
use Rattle.mc_lab.specs.Remarks.{Remark, remarks}
use Rattle.mc_lab.specs.Sweeps.{sweep_text}

-- the text of the sweep of a deck, if it was read
abbrev pub sweep_of : List Remark → Result (List (ℕ × DeckLine)) (ℕ × DeckCause) → Result (List ℕ) (ℕ × DeckCause)
sweep_of marks (Ok ls) = Ok (sweep_text marks ls)
sweep_of marks (Err e) = Err e

-- the text of a sweep of a deck's text
unfoldable pub swept_deck : List ℕ → Result (List ℕ) (ℕ × DeckCause)
unfolding digits deck_read remarks name_of apdu_read touched_words targets_1 targets_2 pairs blocks_from apps_of layout step_of bad_block bad_record bytes_at write_effect too_many later_causes prim_effect causes effect row turn_of_chain run_of_chain manage command send play_at_power step plays moves_of steady_failures sweep_text
swept_deck text = sweep_of (remarks mark.Whole text) (deck_read text)

-- a counter that is loaded and selected, and counts twice
abbrev pub counter_loaded : List ℕ
counter_loaded =
    codes "format\npower\n" ++
    codes "unit counter 0000000000000000000FB902000039020000460200000600020000000961074F05A0000000010" ++
    codes "0096F078405A00000000100000000\nload counter 2 0\nselect A000000001\napdu 8001000002\n"

-- an application that adds 1 to the number at 0, and then to that at 2, loaded and selected
abbrev pub twice_loaded : List ℕ
twice_loaded =
    codes "format\npower\n" ++
    codes "unit twice 00000000000000000013B9020000B902000239040000460400000600040000000961074F05A0000000010" ++
    codes "0096F078405A00000000100000000\nload twice 4 0\nselect A000000001\n"

-- an application that adds 1 to the number at 0, and then subtracts it again, loaded and selected
abbrev pub up_and_down_loaded : List ℕ
up_and_down_loaded =
    codes "format\npower\n" ++
    codes "unit updown 00000000000000000009B9020000C1020000040000000961074F05A0000000010" ++
    codes "0096F078405A00000000100000000\nload updown 2 0\nselect A000000001\n"

-- the words of an empty card of layout 1
abbrev pub old_card : List ℕ
old_card =
    codes "poke 0 4D454C0120000083\npoke 1 534855542D2D2D2D\npoke 2 0000000000000000\npoke 130 0000000000000000\n" ++
    codes "poke 131 48001F7D00000000\n"
