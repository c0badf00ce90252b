-- The text of the exploration of a deck's text, for rows that compute it.
use Rattle.std.specs.Prelude.{◌++◌, codes, ℕ, List, Result, Ok, Err}
use Rattle.std.specs.Fmt.{digits}
use Rattle.law_explore_text.specs.model_card.specs.Units.{name_of}
use Rattle.law_explore_text.specs.model_machine.specs.Apdu.{apdu_read}
use Rattle.law_explore_text.specs.model_device.specs.Pieces.{touched_words}
use Rattle.law_explore_text.specs.model_device.specs.Image.{targets_1, targets_2, pairs}
use Rattle.law_explore_text.specs.model_device.specs.Card.{blocks_from, apps_of}
use Rattle.law_explore_text.specs.model_device.specs.Layout.{layout, step_of, bad_block, bad_record}
use Rattle.law_explore_text.specs.model_machine.specs.Frame.{bytes_at, write_effect, too_many}
use Rattle.law_explore_text.specs.model_machine.specs.Primitives.{later_causes, prim_effect}
use Rattle.law_explore_text.specs.model_machine.specs.Row.{causes, effect, row}
use Rattle.law_explore_text.specs.model_machine.specs.Chain.{turn_of_chain, run_of_chain}
use Rattle.law_explore_text.specs.model_text.specs.TurnText.{turn_line}
use Rattle.law_explore_text.specs.model_card.specs.Manager.{manage}
use Rattle.law_explore_text.specs.model_card.specs.Commands.{command}
use Rattle.law_explore_text.specs.model_play.specs.Play.{send, play_at_power, step, plays, moves_of, steady_failures}
use Rattle.law_rules.specs.law_promise.specs.History.{after_run}
use Rattle.law_explore_text.specs.law_explore.specs.model_events.specs.Matching.{fits}
use Rattle.law_histories.specs.Histories.{AppExploration, AppFault, app_exploration_read}
use Rattle.law_histories.specs.Searches.{app_text}

-- the exploration of a deck that was read
abbrev pub text_in : ℕ → Result AppExploration AppFault → Result (List ℕ) AppFault
text_in n (Ok x) = Ok (app_text n x)
text_in n (Err e) = Err e

-- the text of the exploration of a deck's text, n depths deep
unfoldable pub explored_app : ℕ → List ℕ → Result (List ℕ) AppFault
unfolding digits name_of apdu_read touched_words targets_1 targets_2 pairs blocks_from apps_of layout step_of bad_block bad_record bytes_at write_effect too_many later_causes prim_effect causes effect row turn_of_chain run_of_chain turn_line manage command send play_at_power step plays moves_of steady_failures fits after_run app_exploration_read app_text
explored_app n text = text_in n (app_exploration_read text)

-- an application of some lines of assembly with two static bytes and a session byte, loaded, with some rules
abbrev pub app_deck : List ℕ → List ℕ → List ℕ
app_deck program rules = codes "format\npower\napp a A000000001\n" ++ program ++ codes "end\nload a 2 1\n#@ app a\n" ++ rules
