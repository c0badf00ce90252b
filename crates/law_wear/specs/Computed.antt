-- Computed plays: what each line of a deck wears, and the most that it may.
use Rattle.std.specs.Prelude.{ℕ, List, [], ◌∷◌, replicate, Result, Ok, Err}
use Rattle.law_family.specs.model_play.specs.declared.deck.DeckCause.{DeckCause}
use Rattle.law_family.specs.model_device.specs.Bytes.{zeros}
use Rattle.law_family.specs.model_device.specs.Card.{blocks_from, apps_of}
use Rattle.law_family.specs.model_device.specs.Pieces.{touched_words}
use Rattle.law_family.specs.model_device.specs.Image.{targets_1, targets_2, pairs}
use Rattle.law_family.specs.model_device.specs.Layout.{layout, step_of, bad_block, bad_record}
use Rattle.law_family.specs.model_card.specs.Units.{name_of}
use Rattle.law_family.specs.model_machine.specs.Apdu.{apdu_read}
use Rattle.law_family.specs.model_machine.specs.Frame.{bytes_at, write_effect, too_many}
use Rattle.law_family.specs.model_machine.specs.Primitives.{later_causes, prim_effect}
use Rattle.law_family.specs.model_machine.specs.Row.{causes, effect, row}
use Rattle.law_family.specs.model_machine.specs.Chain.{turn_of_chain, run_of_chain}
use Rattle.law_family.specs.model_card.specs.Manager.{manage}
use Rattle.law_family.specs.model_card.specs.Commands.{command}
use Rattle.law_family.specs.model_play.specs.DeckGrammar.{DeckLine, deck_read}
use Rattle.law_family.specs.model_play.specs.Given.{budget_in}
use Rattle.law_family.specs.model_play.specs.Play.{Step, start, send, play_at_power, step, plays, moves_of, steady_failures}
use Rattle.law_wear.specs.Most.{most_atomic, most_writes}
use Rattle.law_wear.specs.Laws.{atomic_writes, writes_of_play, most_of_play}
use Rattle.law_wear.specs.OfWord.{most_of_word}

-- the words of a small device
abbrev pub blank : List (List ℕ)
blank = replicate 1024 (zeros 8)

-- the number of device writes of each line, and the most that its row of the table has
abbrev pub failure_lines : List Step → List (ℕ × ℕ)
failure_lines [] = []
failure_lines (t ∷ ts) = (t.moves, most_writes (budget_in t.before) t.line) ∷ failure_lines ts

-- the last of some pairs
abbrev pub last_pair : List (ℕ × ℕ) → ℕ × ℕ
last_pair [] = (0, 0)
last_pair (p ∷ []) = p
last_pair (p ∷ q ∷ ps) = last_pair (q ∷ ps)

-- the device writes of the last of some lines on a small device, and the most that its row of the table has
abbrev pub last_of_lines : List (ℕ × DeckLine) → ℕ × ℕ
last_of_lines ls = last_pair (failure_lines (plays (start blank) ls (steady_failures (start blank) ls)))

-- the lines of a deck that was read
abbrev pub lines_of : Result (List (ℕ × DeckLine)) (ℕ × DeckCause) → List (ℕ × DeckLine)
lines_of (Ok ls) = ls
lines_of (Err e) = []

-- the device writes of the last of the lines that are given, and the most that its row of the table has
unfoldable pub last_line_failure : List (ℕ × DeckLine) → ℕ × ℕ
unfolding deck_read name_of apdu_read touched_words targets_1 targets_2 pairs blocks_from apps_of layout step_of bad_block bad_record bytes_at write_effect too_many later_causes prim_effect causes effect row turn_of_chain run_of_chain manage command send play_at_power step plays moves_of steady_failures
last_line_failure ls = last_of_lines ls

-- these numbers for the last line of a deck's text
unfoldable pub last_failure : List ℕ → ℕ × ℕ
unfolding deck_read name_of apdu_read touched_words targets_1 targets_2 pairs blocks_from apps_of layout step_of bad_block bad_record bytes_at write_effect too_many later_causes prim_effect causes effect row turn_of_chain run_of_chain manage command send play_at_power step plays moves_of steady_failures
last_failure deck = last_of_lines (lines_of (deck_read deck))

-- the device writes of a play, and the sum of its rows
abbrev pub sums_of : List Step → ℕ × ℕ
sums_of ts = (writes_of_play ts, most_of_play ts)

-- these sums for the play of a deck's text
unfoldable pub play_failure : List ℕ → ℕ × ℕ
unfolding deck_read name_of apdu_read touched_words targets_1 targets_2 pairs blocks_from apps_of layout step_of bad_block bad_record bytes_at write_effect too_many later_causes prim_effect causes effect row turn_of_chain run_of_chain manage command send play_at_power step plays moves_of steady_failures
play_failure deck =
    let ls = lines_of (deck_read deck) in
    sums_of (plays (start blank) ls (steady_failures (start blank) ls))

-- the number of atomic writes of each line, and the most that its row of the table has
abbrev pub atomic_lines : List Step → List (ℕ × ℕ)
atomic_lines [] = []
atomic_lines (t ∷ ts) = (atomic_writes t.items, most_atomic (budget_in t.before) t.line) ∷ atomic_lines ts

-- these numbers for the last line of a deck's text
unfoldable pub last_atomic : List ℕ → ℕ × ℕ
unfolding deck_read name_of apdu_read touched_words targets_1 targets_2 pairs blocks_from apps_of layout step_of bad_block bad_record bytes_at write_effect too_many later_causes prim_effect causes effect row turn_of_chain run_of_chain manage command send play_at_power step plays moves_of steady_failures
last_atomic deck =
    let ls = lines_of (deck_read deck) in
    last_pair (atomic_lines (plays (start blank) ls (steady_failures (start blank) ls)))

-- the most that the play of a deck's text writes this word
unfoldable pub most_in_play : ℕ → List ℕ → ℕ
unfolding deck_read name_of apdu_read touched_words targets_1 targets_2 pairs blocks_from apps_of layout step_of bad_block bad_record bytes_at write_effect too_many later_causes prim_effect causes effect row turn_of_chain run_of_chain manage command send play_at_power step plays moves_of steady_failures
most_in_play p deck =
    let ls = lines_of (deck_read deck) in
    most_of_word p (plays (start blank) ls (steady_failures (start blank) ls))
