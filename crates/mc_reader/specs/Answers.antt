-- The answers to the frames of a session, by the steps of the play. ISO/IEC 7816-3 (the ATR); ISO/IEC 7816-4 (status
-- bytes).
use Rattle.std.specs.Prelude.{ℕ, Bool, false, List, [], ◌∷◌, ◌++◌, length, drop, Option, Some, None}
use Rattle.mc_words.specs.model_device.specs.Bytes.{bytes2}
use Rattle.mc_apdu.specs.model_machine.specs.Chain.{Outcome, Reply, Abended}
use Rattle.mc_deck.specs.model_play.specs.DeckGrammar.{DeckLine}
use Rattle.mc_deck.specs.model_play.specs.Play.{LineResult, FailureStop, Answered, Step}
use Rattle.mc_apdu.specs.model_machine.specs.Words.{abend_code}
use Rattle.mc_reader.specs.Meanings.{Meaning, PowerOn, PowerOff, WantsAtr, Nothing, Orders, Refused, ToCard, Unheard, meaning, power_after}
use Rattle.mc_reader.specs.Lines.{line_in}

-- the answer to reset: it offers T=0 and T=1, its historical bytes are MELCARD, and its last byte is the check byte
abbrev pub atr : List ℕ
atr = 0x3B ∷ 0x87 ∷ 0x80 ∷ 0x01 ∷ 0x4D ∷ 0x45 ∷ 0x4C ∷ 0x43 ∷ 0x41 ∷ 0x52 ∷ 0x44 ∷ 0x56 ∷ []

-- the bytes of an outcome: those of a reply are its data and its status word, and an abend has a status word of its own
abbrev pub outcome_bytes : Outcome → List ℕ
outcome_bytes (Reply body sw) = body ++ bytes2 sw
outcome_bytes (Abended cause) = 0x6F ∷ abend_code cause ∷ []

-- the bytes of the result of a command; if power was cut, no card runs or the card is mute, there are none
abbrev pub result_bytes : Option LineResult → List ℕ
result_bytes (Some (Answered o)) = outcome_bytes o
result_bytes (Some FailureStop) = bytes2 0x6581
result_bytes _ = []

-- the answer to a frame by the result of its line, `None` if it is not answered
abbrev pub answer_to : Meaning → Option LineResult → Option (List ℕ)
answer_to PowerOn r = None
answer_to PowerOff r = None
answer_to Nothing r = None
answer_to WantsAtr r = Some atr
answer_to (Orders l) r = Some (bytes2 0x9000)
answer_to (Refused status) r = Some (bytes2 status)
answer_to (ToCard f) r = Some (result_bytes r)
answer_to Unheard r = Some []

-- the result of the first of some steps
abbrev pub first_result : List Step → Option LineResult
first_result [] = None
first_result (t ∷ ts) = t.result

-- the steps after that of a line, if there is a line
abbrev pub steps_behind : Option DeckLine → List Step → List Step
steps_behind None ts = ts
steps_behind (Some l) ts = drop 1 ts

-- the answer to each frame, by the steps of the frames' lines
abbrev pub answer_each : Bool → List (List ℕ) → List Step → List (Option (List ℕ))
answer_each powered [] ts = []
answer_each powered (f ∷ fs) ts =
    let m = meaning powered f in
    answer_to m (first_result ts) ∷ answer_each (power_after powered m) fs (steps_behind (line_in m) ts)

-- the values that are there, in order
abbrev pub present : {A : Type 0} → List (Option A) → List A
present [] = []
present (None ∷ os) = present os
present (Some a ∷ os) = a ∷ present os

-- the answer to each frame of a session, by the steps of the whole play
abbrev pub session_answers : List (ℕ × DeckLine) → List (List ℕ) → List Step → List (Option (List ℕ))
session_answers deck fs ts = answer_each false fs (drop (length deck) ts)
