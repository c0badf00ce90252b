-- The deck that a session is, as a text: that of its own deck, and a line for each frame that represents one.
use Rattle.std.specs.Prelude.{◌≡◌, ℕ, ◌+◌, ◌≤◌, Bool, false, List, [], ◌∷◌, ◌++◌, length, map, drop, codes, decimal, Option, Some, None, Ok}
use Rattle.std.specs.List.{AllByRecursion}
use Rattle.mc_words.specs.model_device.specs.Bytes.{AreBytes}
use Rattle.mc_text.specs.model_text.specs.Text.{lines}
use Rattle.mc_text.specs.model_text.specs.Listing.{hex_text}
use Rattle.mc_deck.specs.model_play.specs.DeckGrammar.{DeckLine, deck_read}
use Rattle.mc_deck.specs.model_play.specs.DeckGrammar as line
use Rattle.mc_deck.specs.model_play.specs.Play.{FailedWrite, LineResult, Step, plays, start}
use Rattle.mc_deck.specs.model_play.specs.Transcript.{line_text, transcript}
use Rattle.mc_reader.specs.Meanings.{meaning, power_after}
use Rattle.mc_reader.specs.Lines.{line_in, lines_of, number_after, session_lines}
use Rattle.mc_reader.specs.Answers.{first_result, session_answers, steps_behind}

-- the statement of a line that a frame can represent, and nothing for another line
abbrev pub statement_text : DeckLine → List ℕ
statement_text line.Power = codes "power"
statement_text (line.Sent (line.Apdu bytes)) = codes "apdu " ++ hex_text bytes
statement_text (line.Cut k fill) = codes "cut " ++ decimal k ++ (codes " " ++ hex_text fill)
statement_text (line.Fail k) = codes "fail " ++ decimal k
statement_text (line.Budget n) = codes "budget " ++ decimal n
statement_text _ = []

-- the text of lines that frames represent
abbrev pub statements_text : List (ℕ × DeckLine) → List ℕ
statements_text [] = []
statements_text (l ∷ ls) = statement_text l.1 ++ (codes "\n" ++ statements_text ls)

-- the text of a session: that of its deck, whose last line ends with a line feed, and those of the frames' lines
abbrev pub session_text : List ℕ → List (List ℕ) → List ℕ
session_text text fs = text ++ (codes "\n" ++ statements_text (lines_of 0 false fs))

-- the text of the result of a frame's line, with the number after n; a frame without a line has none
abbrev pub result_text : ℕ → Option DeckLine → Option LineResult → List ℕ
result_text n None r = []
result_text n (Some l) r = line_text (n + 1) r

-- the texts of the results of the frames' lines, by the steps of these lines, with numbers after n
abbrev pub result_texts : ℕ → Bool → List (List ℕ) → List Step → List ℕ
result_texts n powered [] ts = []
result_texts n powered (f ∷ fs) ts =
    let m = meaning powered f in
    result_text n (line_in m) (first_result ts) ++ result_texts (number_after n (line_in m)) (power_after powered m) fs (steps_behind (line_in m) ts)

-- a step without its number
abbrev pub unnumbered : Step → Step
unnumbered t = record t { number = 0 }

-- The text of a session is a deck, and on every image, with every list of failed writes, its play is the session: its
-- steps are those of the session but for the numbers of the lines; its transcript is that of the session's own deck and
-- then, frame by frame, the results of the session; and the answers of the session are these results.
pub record IsSession (text : List ℕ) (deck : List (ℕ × DeckLine)) (fs : List (List ℕ)) : Type 0 where
  pub read : List (ℕ × DeckLine)
  pub reads : deck_read (session_text text fs) ≡ Ok read
  pub steps : (m : List (List ℕ)) (ws : List (Option FailedWrite)) → map unnumbered (plays (start m) read ws) ≡ map unnumbered (plays (start m) (session_lines deck fs) ws)
  pub transcript_of : (m : List (List ℕ)) (ws : List (Option FailedWrite))
      → transcript (plays (start m) read ws)
      ≡ transcript (plays (start m) deck ws) ++ result_texts (length (lines (text ++ codes "\n"))) false fs (drop (length deck) (plays (start m) (session_lines deck fs) ws))
  pub answers : (m : List (List ℕ)) (ws : List (Option FailedWrite))
      → session_answers deck fs (plays (start m) read ws) ≡ session_answers deck fs (plays (start m) (session_lines deck fs) ws)

-- Each session is a deck: whatever text its deck was read from, and whatever frames of bytes its host sends, as long as
-- their lines are at most as many as a deck can have.
abbrev pub SessionLaw : Type 0
SessionLaw =
    (text : List ℕ) (deck : List (ℕ × DeckLine)) (fs : List (List ℕ)) → deck_read (text ++ codes "\n") ≡ Ok deck → AllByRecursion AreBytes fs
    → length (lines (text ++ codes "\n")) + length (lines_of 0 false fs) ≤ 20000 → IsSession text deck fs
