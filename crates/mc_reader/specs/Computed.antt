-- The answers of a session on a blank device of 256 words, from the text of its deck and the bytes of its frames. For
-- worked rows: no contract rests on it.
use Rattle.std.specs.Prelude.{ℕ, List, [], Result, Ok, Err}
use Rattle.mc_deck.specs.model_play.specs.declared.deck.DeckCause.{DeckCause}
use Rattle.mc_words.specs.model_device.specs.Device.{blank_words}
use Rattle.mc_deck.specs.model_play.specs.DeckGrammar.{DeckLine, deck_read}
use Rattle.model_examples.specs.Written.{hex}
use Rattle.model_examples.specs.Played.{steps_on}
use Rattle.mc_reader.specs.Frames.{frames_bytes, frames_within, frames_read}
use Rattle.mc_reader.specs.Lines.{session_lines}
use Rattle.mc_reader.specs.Answers.{present, session_answers}

-- the answers to frames after a deck
abbrev pub answers_to_frames : Result (List (ℕ × DeckLine)) (ℕ × DeckCause) → List (List ℕ) → List ℕ
answers_to_frames (Ok deck) fs = frames_bytes (present (session_answers deck fs (steps_on (blank_words 256) (session_lines deck fs))))
answers_to_frames (Err e) fs = []

-- the answers to frames after a deck, from the text of the deck and the bytes in hexadecimal
unfoldable pub answers_to_input : List ℕ → List ℕ → List ℕ
unfolding deck_read steps_on frames_within
answers_to_input deck input = answers_to_frames (deck_read deck) ((frames_read (hex input)).0)
