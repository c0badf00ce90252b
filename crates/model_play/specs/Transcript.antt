-- The text that a play writes: for each line that has a result its number, a blank, the result and a line feed.
use Rattle.std.specs.Prelude.{ℕ, List, [], ◌∷◌, ◌++◌, Option, Some, None, codes, decimal}
use Rattle.model_text.specs.Listing.{hex_text}
use Rattle.model_text.specs.TurnText.{outcome_text}
use Rattle.model_card.specs.model_device.specs.Words.{cause_text}
use Rattle.model_play.specs.Play.{LineResult, Formatted, Ready, Unusable, OffAt, FailureStop, NoCard, Silenced, Answered, Static, Absent, Step}

-- the text of static bytes
abbrev pub static_text : List ℕ → List ℕ
static_text [] = codes "static"
static_text (b ∷ bs) = codes "static " ++ hex_text (b ∷ bs)

-- the text of a result
abbrev pub text_of_result : LineResult → List ℕ
text_of_result Formatted = codes "formatted"
text_of_result (Ready n) = codes "ready " ++ decimal n
text_of_result (Unusable cause place) = codes "unusable " ++ cause_text cause ++ codes " " ++ decimal place
text_of_result (OffAt k) = codes "off at write " ++ decimal k
text_of_result FailureStop = codes "6581"
text_of_result NoCard = codes "off"
text_of_result Silenced = codes "mute"
text_of_result (Answered outcome) = outcome_text outcome
text_of_result (Static bytes) = static_text bytes
text_of_result Absent = codes "absent"

-- the text of a line with this number
abbrev pub line_text : ℕ → Option LineResult → List ℕ
line_text n None = []
line_text n (Some r) = decimal n ++ codes " " ++ text_of_result r ++ codes "\n"

-- the text of a line that was played
abbrev pub plain_text : Step → List ℕ
plain_text t = line_text t.number t.result

-- the texts of lines that were played, joined
abbrev pub texts : (Step → List ℕ) → List Step → List ℕ
texts f [] = []
texts f (t ∷ ts) = f t ++ texts f ts

-- the text of a play
abbrev pub transcript : List Step → List ℕ
transcript ts = texts plain_text ts
