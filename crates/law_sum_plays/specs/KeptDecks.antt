-- The law of decks whose rules are proved, and a deck whose rules are kept and whose exploration breaks them all the same,
-- since it brings another application under the name.
use Rattle.std.specs.Prelude.{◌≡◌, ◌≢◌, ℕ, Bool, true, false, List, Result, Ok, Err}
use Rattle.std.specs.Fmt.{digits}
use Rattle.law_prove_closed.specs.model_card.specs.Units.{name_of}
use Rattle.law_prove_closed.specs.model_machine.specs.Apdu.{apdu_read}
use Rattle.law_prove_closed.specs.model_device.specs.Pieces.{touched_words}
use Rattle.law_prove_closed.specs.model_device.specs.Image.{targets_1, targets_2, pairs}
use Rattle.law_prove_closed.specs.model_device.specs.Card.{blocks_from, apps_of}
use Rattle.law_prove_closed.specs.model_device.specs.Layout.{layout, step_of, bad_block, bad_record}
use Rattle.law_prove_closed.specs.model_machine.specs.Frame.{bytes_at, write_effect, too_many}
use Rattle.law_prove_closed.specs.model_machine.specs.Primitives.{later_causes, prim_effect}
use Rattle.law_prove_closed.specs.model_machine.specs.Row.{causes, effect, row}
use Rattle.law_prove_closed.specs.model_machine.specs.Chain.{turn_of_chain, run_of_chain}
use Rattle.law_prove_closed.specs.model_text.specs.TurnText.{turn_line}
use Rattle.law_prove_closed.specs.model_card.specs.Manager.{manage}
use Rattle.law_prove_closed.specs.model_card.specs.Commands.{command}
use Rattle.law_prove_closed.specs.model_play.specs.Play.{send, play_at_power, step, plays, moves_of, steady_failures}
use Rattle.law_prove_closed.specs.law_promise.specs.History.{after_run}
use Rattle.law_prove_closed.specs.model_rules.specs.model_events.specs.Matching.{fits}
use Rattle.law_histories.specs.law_explore.specs.Tries.{Try}
use Rattle.law_histories.specs.law_explore.specs.Search.{Ending, All, AtDepth, TooMany, Broken}
use Rattle.law_prove_closed.specs.law_rules.specs.Law.{AreKept}
use Rattle.law_histories.specs.Histories.{AppExploration, AppFault, app_exploration_read}
use Rattle.law_histories.specs.Searches.{app_search}
use Rattle.law_prove_closed.specs.Decks.{DeckIsKept}
use Rattle.law_histories.specs.Kept.{exploration_brings}
use Rattle.law_histories.specs.KeptComputed.{swapped_deck}

-- A deck whose rules are kept in every play, as `law_prove_closed` has it, breaks them in no exploration that brings only
-- their application.
abbrev pub ProvedDeckLaw : Type 0
ProvedDeckLaw =
    (limit n : ℕ) (text : List ℕ) (x : AppExploration) → app_exploration_read text ≡ Ok x → DeckIsKept text → exploration_brings limit n x ≡ true
    → (name : List ℕ) (path : List Try) → (app_search limit n x).ending ≢ Broken name path

-- ---- without the premise

-- that rules which are kept break in no exploration of any deck that they stand in
abbrev pub KeptLaw : Type 0
KeptLaw =
    (limit n : ℕ) (text : List ℕ) (x : AppExploration) → app_exploration_read text ≡ Ok x → AreKept x.rules
    → (name : List ℕ) (path : List Try) → (app_search limit n x).ending ≢ Broken name path

-- whether a search ends with a broken rule
abbrev pub is_broken : Ending → Bool
is_broken (Broken name path) = true
is_broken All = false
is_broken (AtDepth d) = false
is_broken (TooMany d) = false

-- whether that of an exploration that was read does
abbrev pub breaks : ℕ → ℕ → Result AppExploration AppFault → Bool
breaks limit n (Ok x) = is_broken (app_search limit n x).ending
breaks limit n (Err e) = false

-- whether the exploration of that deck breaks its rule
unfoldable pub swapped_breaks : Bool
unfolding digits name_of apdu_read touched_words targets_1 targets_2 pairs blocks_from apps_of layout step_of bad_block bad_record bytes_at write_effect too_many later_causes prim_effect causes effect row turn_of_chain run_of_chain turn_line manage command send play_at_power step plays moves_of steady_failures fits after_run app_exploration_read app_search
swapped_breaks = breaks 10 1 (app_exploration_read swapped_deck)
