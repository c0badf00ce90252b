-- What the purse promises passes its tests, and is false along the plays of wrong purses.
use Rattle.std.proofs.Common.{◌≡◌, ℕ, ◌+◌, ◌%◌, Bool, true, false, List, [], ◌∷◌, Option, Some, None, take, drop, refl}
use Rattle.std.specs.Prelude.{◌&&◌, ◌==◌, nat_le, slice_index}
use Rattle.std.proofs.lemmas.Bool.{and_from, le-leb, eq-eqb}
use Rattle.model_text.specs.model_device.specs.Bytes.{num, lookup}
use Rattle.model_text.specs.model_device.specs.Card.{App}
use Rattle.law_promise.specs.model_play.specs.Given.{apps_in}
use Rattle.model_text.specs.model_device.specs.Card.{blocks_from, apps_of}
use Rattle.model_text.specs.model_device.specs.Pieces.{touched_words}
use Rattle.model_text.specs.model_device.specs.Image.{targets_1, targets_2, pairs}
use Rattle.model_text.specs.model_device.specs.Layout.{layout, step_of, bad_block, bad_record}
use Rattle.law_promise.specs.model_card.specs.Units.{name_of}
use Rattle.model_text.specs.model_machine.specs.Apdu.{apdu_read}
use Rattle.model_text.specs.Assembly.{assembly_of}
use Rattle.model_text.specs.model_machine.specs.Frame.{bytes_at, write_effect, too_many}
use Rattle.model_text.specs.model_machine.specs.Primitives.{later_causes, prim_effect}
use Rattle.model_text.specs.model_machine.specs.Row.{causes, effect, row}
use Rattle.model_text.specs.model_machine.specs.Chain.{turn_of_chain, run_of_chain}
use Rattle.law_promise.specs.model_card.specs.Manager.{manage}
use Rattle.law_promise.specs.model_card.specs.Commands.{command}
use Rattle.law_promise.specs.model_play.specs.DeckGrammar.{deck_read}
use Rattle.law_promise.specs.model_play.specs.Play.{Step, send, play_at_power, step, plays, moves_of, steady_failures}
use Rattle.law_promise.specs.History.{after_run}
use Rattle.law_promise.specs.Along.{OnApp}
use Rattle.law_promise.specs.Computed.{IsBroken, on_app, tests_along, steps_of, all_bring_only}
use Rattle.law_promise.proofs.Tested.{are_true, broken}
use Rattle.example_purse.specs.Purse.{Event, Commanded, Tries, Right, Wrong, Debited, Selected, Ended, purse_name, purse_watch}
use Rattle.example_purse.specs.Laws.{wrong_since, AtMostThree, KeepsGuesses, sum_of_debits, number_of_debits, KeepsBooks, is_shown, KeepsSessions, SaysGuesses, SaysBooks, SaysSessions}
use Rattle.example_purse.specs.Worked.{is_at_most_three, keeps_guesses, keeps_balance, keeps_sessions, late_try, late_try_deck, early_reset, early_reset_deck, unprotected, unprotected_deck, early_session, early_session_deck, reads_again, two_firms, app_of, app_with_name}

-- ---- tests

three_tested : (h : List Event) → AtMostThree h → is_at_most_three h ≡ true
three_tested [] x = refl
three_tested (e ∷ h) x = and_from (nat_le (wrong_since (e ∷ h)) 3) (is_at_most_three h) (le-leb (wrong_since (e ∷ h)) 3 x.0) (three_tested h x.1)

on_tested : (holds : List ℕ → Type 0) (test : List ℕ → Bool) → ((fixed : List ℕ) → holds fixed → test fixed ≡ true) → (found : Option App) → OnApp holds found → on_app test found ≡ true
on_tested holds test f None x = refl
on_tested holds test f (Some a) x = f a.fixed x

guesses_tested : (h : List Event) (t : Step) (k : List Event) → SaysGuesses h t k → on_app (keeps_guesses k) (lookup (apps_in t.after) purse_name) ≡ true
guesses_tested h t k x =
    on_tested (KeepsGuesses k) (keeps_guesses k)
    (λ fixed y. and_from (is_at_most_three k) (nat_le (slice_index fixed 2 + wrong_since k) 3) (three_tested k y.few) (le-leb (slice_index fixed 2 + wrong_since k) 3 y.tries))
    (lookup (apps_in t.after) purse_name) x

balance_tested : (h : List Event) (t : Step) (k : List Event) → SaysBooks h t k → on_app (keeps_balance k) (lookup (apps_in t.after) purse_name) ≡ true
balance_tested h t k x =
    on_tested (KeepsBooks k) (keeps_balance k)
    (λ fixed y. and_from (num (take 2 fixed) + sum_of_debits k == 1000) (num (take 2 (drop 5 fixed)) == number_of_debits k % 65536) (eq-eqb (num (take 2 fixed) + sum_of_debits k) 1000 y.balance)
    (eq-eqb (num (take 2 (drop 5 fixed))) (number_of_debits k % 65536) y.number))
    (lookup (apps_in t.after) purse_name) x.0

shown_tested : (h : List Event) → KeepsSessions h → keeps_sessions h ≡ true
shown_tested [] x = refl
shown_tested (Right direct ∷ h) x = shown_tested h x
shown_tested (Wrong ∷ h) x = shown_tested h x
shown_tested (Commanded ins body ∷ h) x = shown_tested h x
shown_tested (Tries left ∷ h) x = shown_tested h x
shown_tested (Debited direct amount ∷ h) x = and_from (direct && is_shown h) (keeps_sessions h) (and_from direct (is_shown h) x.0 x.1) (shown_tested h x.2)
shown_tested (Selected ∷ h) x = shown_tested h x
shown_tested (Ended ∷ h) x = shown_tested h x

sessions_tested : (h : List Event) (t : Step) (k : List Event) → SaysSessions h t k → on_app (λ fixed. keeps_sessions k) (lookup (apps_in t.after) purse_name) ≡ true
sessions_tested h t k x = on_tested (λ fixed. KeepsSessions k) (λ fixed. keeps_sessions k) (λ fixed y. shown_tested k y) (lookup (apps_in t.after) purse_name) x

-- ---- wrong purses

late_try_alone : all_bring_only purse_name (app_of late_try) (steps_of (deck_read late_try_deck)) ≡ true
unfolding deck_read name_of apdu_read touched_words targets_1 targets_2 pairs blocks_from apps_of layout step_of bad_block bad_record bytes_at write_effect too_many later_causes prim_effect causes effect row turn_of_chain run_of_chain manage command send play_at_power step plays moves_of steady_failures after_run assembly_of
late_try_alone = refl

late_try_fails : are_true (tests_along purse_watch keeps_guesses [] (steps_of (deck_read late_try_deck))) ≡ false
unfolding deck_read name_of apdu_read touched_words targets_1 targets_2 pairs blocks_from apps_of layout step_of bad_block bad_record bytes_at write_effect too_many later_causes prim_effect causes effect row turn_of_chain run_of_chain manage command send play_at_power step plays moves_of steady_failures after_run assembly_of
late_try_fails = refl

-- a purse that counts the try after the comparison breaks the bound of wrong PINs
pub late_try_broken : IsBroken purse_watch (app_of late_try) SaysGuesses late_try_deck
late_try_broken = broken purse_watch (app_of late_try) SaysGuesses keeps_guesses guesses_tested (steps_of (deck_read late_try_deck)) late_try_alone late_try_fails

early_reset_alone : all_bring_only purse_name (app_of early_reset) (steps_of (deck_read early_reset_deck)) ≡ true
unfolding deck_read name_of apdu_read touched_words targets_1 targets_2 pairs blocks_from apps_of layout step_of bad_block bad_record bytes_at write_effect too_many later_causes prim_effect causes effect row turn_of_chain run_of_chain manage command send play_at_power step plays moves_of steady_failures after_run assembly_of
early_reset_alone = refl

early_reset_fails : are_true (tests_along purse_watch keeps_guesses [] (steps_of (deck_read early_reset_deck))) ≡ false
unfolding deck_read name_of apdu_read touched_words targets_1 targets_2 pairs blocks_from apps_of layout step_of bad_block bad_record bytes_at write_effect too_many later_causes prim_effect causes effect row turn_of_chain run_of_chain manage command send play_at_power step plays moves_of steady_failures after_run assembly_of
early_reset_fails = refl

-- a purse that sets the tries back before the comparison breaks it
pub early_reset_broken : IsBroken purse_watch (app_of early_reset) SaysGuesses early_reset_deck
early_reset_broken = broken purse_watch (app_of early_reset) SaysGuesses keeps_guesses guesses_tested (steps_of (deck_read early_reset_deck)) early_reset_alone early_reset_fails

unprotected_alone : all_bring_only purse_name (app_of unprotected) (steps_of (deck_read unprotected_deck)) ≡ true
unfolding deck_read name_of apdu_read touched_words targets_1 targets_2 pairs blocks_from apps_of layout step_of bad_block bad_record bytes_at write_effect too_many later_causes prim_effect causes effect row turn_of_chain run_of_chain manage command send play_at_power step plays moves_of steady_failures after_run assembly_of
unprotected_alone = refl

unprotected_fails : are_true (tests_along purse_watch keeps_balance [] (steps_of (deck_read unprotected_deck))) ≡ false
unfolding deck_read name_of apdu_read touched_words targets_1 targets_2 pairs blocks_from apps_of layout step_of bad_block bad_record bytes_at write_effect too_many later_causes prim_effect causes effect row turn_of_chain run_of_chain manage command send play_at_power step plays moves_of steady_failures after_run assembly_of
unprotected_fails = refl

-- a purse that does not write balance and number as one breaks its books
pub unprotected_broken : IsBroken purse_watch (app_of unprotected) SaysBooks unprotected_deck
unprotected_broken = broken purse_watch (app_of unprotected) SaysBooks keeps_balance balance_tested (steps_of (deck_read unprotected_deck)) unprotected_alone unprotected_fails

early_session_alone : all_bring_only purse_name (app_of early_session) (steps_of (deck_read early_session_deck)) ≡ true
unfolding deck_read name_of apdu_read touched_words targets_1 targets_2 pairs blocks_from apps_of layout step_of bad_block bad_record bytes_at write_effect too_many later_causes prim_effect causes effect row turn_of_chain run_of_chain manage command send play_at_power step plays moves_of steady_failures after_run assembly_of
early_session_alone = refl

early_session_fails : are_true (tests_along purse_watch (λ h fixed. keeps_sessions h) [] (steps_of (deck_read early_session_deck))) ≡ false
unfolding deck_read name_of apdu_read touched_words targets_1 targets_2 pairs blocks_from apps_of layout step_of bad_block bad_record bytes_at write_effect too_many later_causes prim_effect causes effect row turn_of_chain run_of_chain manage command send play_at_power step plays moves_of steady_failures after_run assembly_of
early_session_fails = refl

-- a purse that sets the session byte before the PIN is looked at debits without it
pub early_session_broken : IsBroken purse_watch (app_of early_session) SaysSessions early_session_deck
early_session_broken = broken purse_watch (app_of early_session) SaysSessions (λ h fixed. keeps_sessions h) sessions_tested (steps_of (deck_read early_session_deck)) early_session_alone early_session_fails

reads_again_alone : all_bring_only purse_name (app_with_name reads_again) (steps_of (deck_read two_firms)) ≡ true
unfolding deck_read name_of apdu_read touched_words targets_1 targets_2 pairs blocks_from apps_of layout step_of bad_block bad_record bytes_at write_effect too_many later_causes prim_effect causes effect row turn_of_chain run_of_chain manage command send play_at_power step plays moves_of steady_failures after_run assembly_of
reads_again_alone = refl

reads_again_fails : are_true (tests_along purse_watch keeps_balance [] (steps_of (deck_read two_firms))) ≡ false
unfolding deck_read name_of apdu_read touched_words targets_1 targets_2 pairs blocks_from apps_of layout step_of bad_block bad_record bytes_at write_effect too_many later_causes prim_effect causes effect row turn_of_chain run_of_chain manage command send play_at_power step plays moves_of steady_failures after_run assembly_of
reads_again_fails = refl

-- a purse that reads the amount again over a delegation breaks its books
pub reads_again_broken : IsBroken purse_watch (app_with_name reads_again) SaysBooks two_firms
reads_again_broken = broken purse_watch (app_with_name reads_again) SaysBooks keeps_balance balance_tested (steps_of (deck_read two_firms)) reads_again_alone reads_again_fails
