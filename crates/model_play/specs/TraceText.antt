-- The line of each executed instruction, and the transcript with those lines.
use Rattle.std.specs.Prelude.{◌≡◌, ℕ, ◌+◌, ◌-◌, Bool, cond, not, nat_le, ◌==◌, List, [], ◌∷◌, ◌++◌, filter, Option, Some, None, codes}
use Rattle.model_text.specs.TurnText.{turn_lines}
use Rattle.model_card.specs.model_machine.specs.declared.instruction.Ins.{Ins}
use Rattle.model_card.specs.model_device.specs.Bytes.{bytes2}
use Rattle.model_card.specs.model_device.specs.Image.{Two}
use Rattle.model_card.specs.model_device.specs.Stopped.{cost}
use Rattle.model_text.specs.Listing.{text_of, hex_text}
use Rattle.model_card.specs.model_machine.specs.Chain.{Turn}
use Rattle.model_card.specs.Items.{StopAt}
use Rattle.model_play.specs.Play.{Step}
use Rattle.model_text.specs.Text.{begins, pieces}
use Rattle.model_play.specs.Transcript.{plain_text, texts, transcript}

-- the turns before the one whose atomic write a stop at write k hits
abbrev pub turns_to : Option ℕ → Turn → ℕ → (ℕ → List Turn) → List Turn
turns_to None t k rest = t ∷ rest k
turns_to (Some w) t k rest = cond (nat_le k (cost Two w)) [] (t ∷ rest (k - cost Two w))

-- the turns before a stop at write k
abbrev pub before_stop : List Turn → ℕ → List Turn
before_stop [] k = []
before_stop (t ∷ ts) k = turns_to t.wrote t k (λ j. before_stop ts j)

-- the turns of a command that are shown
abbrev pub shown_turns : List Turn → Option StopAt → List Turn
shown_turns ts None = ts
shown_turns ts (Some s) = before_stop ts s.at

-- the text of a line that was played, after the lines of its turns
abbrev pub traced_text : Step → List ℕ
traced_text t = turn_lines (shown_turns t.turns t.stop) ++ plain_text t

-- the text of a traced play
abbrev pub trace_text : List Step → List ℕ
trace_text ts = texts traced_text ts

-- ---- the transcript in it

-- whether a line of a trace is that of a turn: it begins with `>`, as no other line does
abbrev pub is_turn_line : List ℕ → Bool
is_turn_line l = begins 62 l

-- pieces with a line feed between each and the next
abbrev pub joined_lines : List (List ℕ) → List ℕ
joined_lines [] = []
joined_lines (p ∷ []) = p
joined_lines (p ∷ q ∷ ps) = p ++ 10 ∷ joined_lines (q ∷ ps)

-- a text without the lines that begin with `>`
abbrev pub without_turn_lines : List ℕ → List ℕ
without_turn_lines t = joined_lines (filter (λ l. not (is_turn_line l)) (pieces (λ c. c == 10) t))

-- a trace without its turns' lines is the transcript
abbrev pub TraceLaw : Type 0
TraceLaw = (ts : List Step) → without_turn_lines (trace_text ts) ≡ transcript ts
