-- Computed plays: for each line of a deck whether a test of an application holds after it.
use Rattle.std.specs.Prelude.{ℕ, zero, suc, ◌+◌, ◌-◌, Bool, true, cond, not, ◌&&◌, ◌||◌, ◌==◌, List, [], ◌∷◌, ◌++◌, length, take, drop, slice_set, bytes_eq, is_none, replicate, Option, Some, None, Result, Ok, Err}
use Rattle.law_bytes.specs.model_play.specs.declared.deck.DeckCause.{DeckCause}
use Rattle.model_events.specs.model_device.specs.Bytes.{up, zeros, bytes2, lookup}
use Rattle.model_events.specs.model_device.specs.Card.{App, blocks_from, apps_of, heap_start}
use Rattle.model_events.specs.model_device.specs.Pieces.{touched_words}
use Rattle.model_events.specs.model_device.specs.Image.{targets_1, targets_2, pairs}
use Rattle.model_events.specs.model_device.specs.Layout.{layout, step_of, bad_block, bad_record, hole_header, root, used_header}
use Rattle.law_bytes.specs.model_card.specs.Units.{name_of}
use Rattle.model_events.specs.model_machine.specs.Apdu.{apdu_read}
use Rattle.model_events.specs.model_machine.specs.Frame.{bytes_at, write_effect, too_many}
use Rattle.model_events.specs.model_machine.specs.Primitives.{later_causes, prim_effect}
use Rattle.model_events.specs.model_machine.specs.Row.{causes, effect, row}
use Rattle.model_events.specs.model_machine.specs.Chain.{turn_of_chain, run_of_chain}
use Rattle.law_bytes.specs.model_card.specs.Items.{Fixed, Created, Deleted, Item, Plain, Atomic}
use Rattle.law_bytes.specs.model_card.specs.Manager.{manage}
use Rattle.law_bytes.specs.model_card.specs.Commands.{command}
use Rattle.law_bytes.specs.model_play.specs.DeckGrammar.{DeckLine, deck_read}
use Rattle.law_bytes.specs.model_play.specs.DeckGrammar as line
use Rattle.law_bytes.specs.model_play.specs.Given.{apps_in}
use Rattle.law_bytes.specs.model_play.specs.Play.{State, BeforePower, AfterPower, Step, formatted_image, start, send, play_at_power, step, plays, moves_of, steady_failures}
use Rattle.law_promise.specs.Along.{Along}
use Rattle.model_events.specs.Deeds.{Watch}
use Rattle.law_promise.specs.History.{after_run, after_step, after_steps}

-- the words of a small device
abbrev pub blank : List (List ℕ)
blank = replicate 512 (zeros 8)

-- the steps of a deck that was read
abbrev pub steps_of : Result (List (ℕ × DeckLine)) (ℕ × DeckCause) → List Step
steps_of (Ok ls) = plays (start blank) ls (steady_failures (start blank) ls)
steps_of (Err e) = []

-- a test of the application's static bytes, where it is there
abbrev pub on_app : (List ℕ → Bool) → Option App → Bool
on_app test None = true
on_app test (Some a) = test a.fixed

-- for each line whether the test holds of the history and the static bytes after it
abbrev pub tests_along : {E : Type 0} → Watch E → (List E → List ℕ → Bool) → List E → List Step → List Bool
tests_along w test h [] = []
tests_along w test h (t ∷ ts) = on_app (test (after_step w t h)) (lookup (apps_in t.after) w.name) ∷ tests_along w test (after_step w t h) ts

-- the first line, counted from 0, after which the test does not hold
abbrev pub first_false : ℕ → List Bool → Option ℕ
first_false n [] = None
first_false n (b ∷ bs) = cond b (first_false (n + 1) bs) (Some n)

-- the first line of a deck, counted from 0, after which a test does not hold
unfoldable pub broken_at : {E : Type 0} → Watch E → (List E → List ℕ → Bool) → List ℕ → Option ℕ
unfolding deck_read name_of apdu_read touched_words targets_1 targets_2 pairs blocks_from apps_of layout step_of bad_block bad_record bytes_at write_effect too_many later_causes prim_effect causes effect row turn_of_chain run_of_chain manage command send play_at_power step plays moves_of steady_failures after_run
broken_at w test deck = first_false 0 (tests_along w test [] (steps_of (deck_read deck)))

-- the history after a deck
unfoldable pub history_of : {E : Type 0} → Watch E → List ℕ → List E
unfolding deck_read name_of apdu_read touched_words targets_1 targets_2 pairs blocks_from apps_of layout step_of bad_block bad_record bytes_at write_effect too_many later_causes prim_effect causes effect row turn_of_chain run_of_chain manage command send play_at_power step plays moves_of steady_failures after_run
history_of w deck = after_steps w (steps_of (deck_read deck)) []

-- ---- the premise as a test

-- code, static bytes, session bytes and access list are those of the application
abbrev pub is_app : App → App → Bool
is_app app a = bytes_eq a.code app.code && bytes_eq a.fixed app.fixed && a.session == app.session && a.deny == app.deny

-- among these items whatever is created under the name is the application
abbrev pub creates_only : List ℕ → App → List Item → Bool
creates_only n app [] = true
creates_only n app (Plain ∷ is) = creates_only n app is
creates_only n app (Atomic w (Fixed m ps) ∷ is) = creates_only n app is
creates_only n app (Atomic w (Created m a) ∷ is) = (not (bytes_eq m n) || is_app app a) && creates_only n app is
creates_only n app (Atomic w (Deleted m) ∷ is) = creates_only n app is

-- the card that the first power line finds has none of the name
abbrev pub finds_none : List ℕ → State → DeckLine → State → Bool
finds_none n (BeforePower m b a) line.Power after = is_none (lookup (apps_in after) n)
finds_none n (BeforePower m b a) _ after = true
finds_none n (AfterPower s) l after = true

-- each line of a play brings no other application under the name
abbrev pub all_bring_only : List ℕ → App → List Step → Bool
all_bring_only n app [] = true
all_bring_only n app (t ∷ ts) = creates_only n app t.whole && finds_none n t.before t.line t.after && all_bring_only n app ts

-- so does each line of a deck
unfoldable pub brings_only : List ℕ → App → List ℕ → Bool
unfolding deck_read name_of apdu_read touched_words targets_1 targets_2 pairs blocks_from apps_of layout step_of bad_block bad_record bytes_at write_effect too_many later_causes prim_effect causes effect row turn_of_chain run_of_chain manage command send play_at_power step plays moves_of steady_failures
brings_only n app deck = all_bring_only n app (steps_of (deck_read deck))

-- ---- a card that already holds an application

-- bytes as n words, the last one filled up with zeros
abbrev pub in_words : ℕ → List ℕ → List (List ℕ)
in_words zero b = []
in_words (suc n) b = take 8 (b ++ zeros 8) ∷ in_words n (drop 8 b)

-- the block of an application without DIR and FCI: its header, the record, the code and the static bytes
abbrev pub block_of : List ℕ → App → List (List ℕ)
block_of name a =
    let code = up (length a.code) 8 in
    let fixed = up (length a.fixed) 8 in
    let record_bytes = name ++ zeros (16 - length name) ++ length name ∷ 0 ∷ 0 ∷ 0 ∷ (bytes2 (length a.code) ++ bytes2 (length a.fixed) ++ bytes2 a.session ++ bytes2 a.deny ++ zeros 4) in
    used_header (5 + code + fixed) ∷ (in_words 4 record_bytes ++ in_words code a.code ++ in_words fixed a.fixed)

-- a small device whose card has this application alone
abbrev pub holding : List ℕ → App → List (List ℕ)
holding name a =
    let block = block_of name a in
    let end = heap_start + length block in
    slice_set (take heap_start (formatted_image blank)) 0 (root 2 (length blank) end) ++ block ++ hole_header (length blank - end) 0 ∷ replicate (length blank - end - 1) (zeros 8)

-- the lines of a deck on such a device
abbrev pub steps_on : List (List ℕ) → Result (List (ℕ × DeckLine)) (ℕ × DeckCause) → List Step
steps_on m (Ok ls) = plays (start m) ls (steady_failures (start m) ls)
steps_on m (Err e) = []

-- the first line of a deck, counted from 0, after which a test does not hold, from a history with which the card begins
unfoldable pub broken_from : {E : Type 0} → Watch E → (List E → List ℕ → Bool) → List E → App → List ℕ → Option ℕ
unfolding deck_read name_of apdu_read touched_words targets_1 targets_2 pairs blocks_from apps_of layout step_of bad_block bad_record bytes_at write_effect too_many later_causes prim_effect causes effect row turn_of_chain run_of_chain manage command send play_at_power step plays moves_of steady_failures after_run
broken_from w test h a deck = first_false 0 (tests_along w test h (steps_on (holding w.name a) (deck_read deck)))

-- the history after the deck, from there on
unfoldable pub history_from : {E : Type 0} → Watch E → List E → App → List ℕ → List E
unfolding deck_read name_of apdu_read touched_words targets_1 targets_2 pairs blocks_from apps_of layout step_of bad_block bad_record bytes_at write_effect too_many later_causes prim_effect causes effect row turn_of_chain run_of_chain manage command send play_at_power step plays moves_of steady_failures after_run
history_from w h a deck = after_steps w (steps_on (holding w.name a) (deck_read deck)) h

-- ---- a promise that is broken

-- what an application was to keep is false along the play of a deck
abbrev pub IsBroken : {E : Type 0} → Watch E → App → (List E → Step → List E → Type 0) → List ℕ → Type 0
IsBroken w app says deck = Along w app says [] (steps_of (deck_read deck)) → ⊥
