-- The output for a deck's text that is played on a blank device.
use Rattle.std.specs.Prelude.{ℕ, List, [], ◌++◌, codes, Result, Ok, Err, ◌∷◌, zero, suc, map, flat_map, decimal, Option}
use Rattle.std.specs.Fmt.{digits}
use Rattle.sha1.specs.Sha1.{sha1, digest_bytes, hash_after, compress, rounds, schedule, first_words}
use Rattle.model_play.specs.declared.deck.DeckCause.{DeckCause}
use Rattle.model_machine.specs.model_device.specs.Device.{blank_words, device_words}
use Rattle.model_card.specs.Units.{name_of, unit_bytes, made_dir, made_fci}
use Rattle.model_machine.specs.Apdu.{apdu_read}
use Rattle.model_machine.specs.model_device.specs.Pieces.{touched_words}
use Rattle.model_machine.specs.Des.{des_encipher, des_decipher, tdes_encipher, tdes_decipher, des_signature, tdes_signature}
use Rattle.model_machine.specs.Aes.{aes_encipher, aes_decipher, aes_signature}
use Rattle.model_machine.specs.model_device.specs.Image.{targets_1, targets_2, pairs}
use Rattle.model_machine.specs.model_device.specs.Card.{Card, blocks_from, apps_of}
use Rattle.model_machine.specs.model_device.specs.Layout.{layout, step_of, bad_block, bad_record, gaps, first_fitting}
use Rattle.model_machine.specs.Frame.{bytes_at, write_effect, too_many}
use Rattle.model_machine.specs.Primitives.{later_causes, prim_effect}
use Rattle.model_machine.specs.Row.{causes, effect, row}
use Rattle.model_machine.specs.Chain.{turn_of_chain, run_of_chain}
use Rattle.model_card.specs.Manager.{manage}
use Rattle.model_play.specs.Play.{State, Step, start, send, play_at_power, step, plays, moves_of, steady_failures, BeforePower, AfterPower, last_state}
use Rattle.model_card.specs.Commands.{command}
use Rattle.model_machine.specs.model_device.specs.PowerUp.{Base, OnCard, AtFault}
use Rattle.model_text.specs.Listing.{hex_text}
use Rattle.model_play.specs.Transcript.{transcript}
use Rattle.model_text.specs.TurnText.{turn_line}
use Rattle.model_play.specs.TraceText.{trace_text}
use Rattle.model_play.specs.DeckGrammar.{DeckLine, deck_read}
use Rattle.model_play.specs.Generator.{summary}
use Rattle.model_examples.specs.Written.{hex}

-- the line `unit NAME HEX` of a made unit, from its name, and its AID, code and data in hexadecimal
abbrev pub unit_line : List ℕ → List ℕ → List ℕ → List ℕ → List ℕ
unit_line name aid code init =
    codes "unit " ++ name ++ codes " " ++ hex_text (unit_bytes (hex code) (hex init) (made_dir (hex aid)) (made_fci (hex aid))) ++ codes "\n"

-- the play of numbered lines on some words, on a device whose only failed writes are those of `fail` lines
unfoldable pub steps_on : List (List ℕ) → List (ℕ × DeckLine) → List Step
unfolding name_of apdu_read touched_words des_encipher des_decipher tdes_encipher tdes_decipher des_signature tdes_signature aes_encipher aes_decipher aes_signature sha1 digest_bytes hash_after compress rounds schedule first_words targets_1 targets_2 pairs blocks_from apps_of layout step_of bad_block bad_record bytes_at write_effect too_many later_causes prim_effect causes effect row turn_of_chain run_of_chain manage command send play_at_power step plays moves_of steady_failures
steps_on words ls = plays (start words) ls (steady_failures (start words) ls)

-- the transcript of a deck that was read, or its refusal
abbrev pub transcript_of : List (List ℕ) → Result (List (ℕ × DeckLine)) (ℕ × DeckCause) → Result (List ℕ) (ℕ × DeckCause)
transcript_of words (Ok ls) = Ok (transcript (steps_on words ls))
transcript_of words (Err e) = Err e

-- the trace of a deck that was read, or its refusal
abbrev pub trace_of : List (List ℕ) → Result (List (ℕ × DeckLine)) (ℕ × DeckCause) → Result (List ℕ) (ℕ × DeckCause)
trace_of words (Ok ls) = Ok (trace_text (steps_on words ls))
trace_of words (Err e) = Err e

-- the transcript of a deck's text on a blank device of 8,192 words
unfoldable pub deck_transcript : List ℕ → Result (List ℕ) (ℕ × DeckCause)
unfolding deck_read steps_on digits
deck_transcript text = transcript_of (blank_words device_words) (deck_read text)

-- the transcript of a deck's text on a blank device of `size` words
unfoldable pub deck_transcript_on : ℕ → List ℕ → Result (List ℕ) (ℕ × DeckCause)
unfolding deck_read steps_on digits
deck_transcript_on size text = transcript_of (blank_words size) (deck_read text)

-- the trace of a deck's text on a blank device of 8,192 words
unfoldable pub trace : List ℕ → Result (List ℕ) (ℕ × DeckCause)
unfolding deck_read steps_on turn_line digits
trace text = trace_of (blank_words device_words) (deck_read text)

-- the summary of a deck that was read, or its refusal
abbrev pub summary_in : List (List ℕ) → Result (List (ℕ × DeckLine)) (ℕ × DeckCause) → Result (List ℕ) (ℕ × DeckCause)
summary_in words (Ok ls) = Ok (summary (steps_on words ls))
summary_in words (Err e) = Err e

-- the summary of a deck's text on a blank device of 8,192 words
unfoldable pub deck_summary : List ℕ → Result (List ℕ) (ℕ × DeckCause)
unfolding deck_read steps_on summary digits
deck_summary text = summary_in (blank_words device_words) (deck_read text)

-- the card in the words of a device, as a list that is empty if there is none
abbrev pub card_at : Base → List Card
card_at (OnCard c) = c ∷ []
card_at (AtFault cause p) = []

-- the card of a state, if it has one
abbrev pub card_in : State → List Card
card_in (BeforePower m b a) = []
card_in (AfterPower s) = card_at s.base

-- the card that a deck leaves, if there is one
abbrev pub card_left : List (List ℕ) → Result (List (ℕ × DeckLine)) (ℕ × DeckCause) → List Card
card_left words (Ok ls) = card_in (last_state (start words) (steps_on words ls))
card_left words (Err e) = []

-- the header words of the card that a deck's text leaves on a blank device of `size` words
unfoldable pub headers_left : ℕ → List ℕ → List (ℕ × List ℕ)
unfolding deck_read steps_on layout digits
headers_left size text = flat_map layout (card_left (blank_words size) (deck_read text))

-- the place where that card has room for `n` words
unfoldable pub room_left : ℕ → ℕ → List ℕ → List (Option ℕ)
unfolding deck_read steps_on
room_left size n text = map (λ c. first_fitting n (gaps c)) (card_left (blank_words size) (deck_read text))

-- the text that loads `n` applications of the counter's code, from A000000101 on
abbrev pub counters : ℕ → List ℕ
counters zero = []
counters (suc n) =
    counters n
    ++ unit_line (codes "u" ++ decimal (suc n)) (codes "A0000001" ++ hex_text (suc n ∷ [])) (codes "B90200003902000046020000060002") []
    ++ codes "load u" ++ decimal (suc n) ++ codes " 2 0\n"

-- the text of a deck that loads twenty counters
unfoldable pub twenty_counters : List ℕ
unfolding digits
twenty_counters = codes "format\npower\n" ++ counters 20
