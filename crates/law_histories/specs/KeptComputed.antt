-- Small decks with the rules of one application, and whether they bring only that application.
use Rattle.std.specs.Prelude.{ℕ, Bool, List, ◌++◌, codes, Result, Ok, Err}
use Rattle.std.specs.Fmt.{digits}
use Rattle.law_histories.specs.model_card.specs.Units.{name_of}
use Rattle.law_histories.specs.model_machine.specs.Apdu.{apdu_read}
use Rattle.law_histories.specs.model_device.specs.Pieces.{touched_words}
use Rattle.law_histories.specs.model_device.specs.Image.{targets_1, targets_2, pairs}
use Rattle.law_histories.specs.model_device.specs.Card.{blocks_from, apps_of}
use Rattle.law_histories.specs.model_device.specs.Layout.{layout, step_of, bad_block, bad_record}
use Rattle.law_histories.specs.model_machine.specs.Frame.{bytes_at, write_effect, too_many}
use Rattle.law_histories.specs.model_machine.specs.Primitives.{later_causes, prim_effect}
use Rattle.law_histories.specs.model_machine.specs.Row.{causes, effect, row}
use Rattle.law_histories.specs.model_machine.specs.Chain.{turn_of_chain, run_of_chain}
use Rattle.law_histories.specs.model_text.specs.TurnText.{turn_line}
use Rattle.law_histories.specs.model_card.specs.Manager.{manage}
use Rattle.law_histories.specs.model_card.specs.Commands.{command}
use Rattle.law_histories.specs.model_play.specs.Play.{send, play_at_power, step, plays, moves_of, steady_failures}
use Rattle.law_histories.specs.law_promise.specs.History.{after_run}
use Rattle.law_histories.specs.model_rules.specs.model_events.specs.Matching.{fits}
use Rattle.law_histories.specs.Histories.{AppExploration, AppFault, app_exploration_read}
use Rattle.law_histories.specs.Kept.{brings_only_target, exploration_brings}

-- whether an exploration that was read brings only the application of its rules
abbrev pub only_in : Result AppExploration AppFault → Result Bool AppFault
only_in (Ok x) = Ok (brings_only_target x)
only_in (Err e) = Err e

-- whether that of a deck's text does
unfoldable pub only_target : List ℕ → Result Bool AppFault
unfolding digits name_of apdu_read touched_words targets_1 targets_2 pairs blocks_from apps_of layout step_of bad_block bad_record bytes_at write_effect too_many later_causes prim_effect causes effect row turn_of_chain run_of_chain turn_line manage command send play_at_power step plays moves_of steady_failures fits after_run app_exploration_read brings_only_target
only_target text = only_in (app_exploration_read text)

-- whether the search of an exploration that was read does, one depth deep
abbrev pub brought_in : Result AppExploration AppFault → Result Bool AppFault
brought_in (Ok x) = Ok (exploration_brings 100 1 x)
brought_in (Err e) = Err e

-- whether that of a deck's text does
unfoldable pub only_brought : List ℕ → Result Bool AppFault
unfolding digits name_of apdu_read touched_words targets_1 targets_2 pairs blocks_from apps_of layout step_of bad_block bad_record bytes_at write_effect too_many later_causes prim_effect causes effect row turn_of_chain run_of_chain turn_line manage command send play_at_power step plays moves_of steady_failures fits after_run app_exploration_read exploration_brings
only_brought text = brought_in (app_exploration_read text)

-- a deck with an application that exits and one that abends, both under one name; the rule speaks of the first
abbrev pub two_apps : List ℕ → List ℕ
two_apps rest =
    codes "format\npower\napp a A000000001\nEXIT\nend\napp b A000000001\nPOPB\nEXIT\nend\nload a 2 1\n#@ app a\n#@ never abend\n#@ move apdu 8001000000\n" ++ rest

-- it is deleted, and the other takes its name
abbrev pub swapped_deck : List ℕ
swapped_deck = two_apps (codes "delete A000000001\nload b 2 1\nselect A000000001\n")
