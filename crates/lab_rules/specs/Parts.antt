-- The parts of an `on` line as the code has them.
use Rattle.std.specs.Prelude.{◌≡◌, ℕ, List, Result, Ok, Err}
use Rattle.mc_text.specs.model_text.specs.Text.{fields}
use Rattle.law_explore.specs.model_play.specs.declared.deck.DeckCause.{DeckCause}
use Rattle.law_explore.specs.model_events.specs.Matching.{plain}
use Rattle.law_explore.specs.model_play.specs.RuleLines.{Parts}

-- the fields before a word of an `on` line, the word's value, and the text after it are those of the definition
pub record IsParts {W : Type 0} (pattern : List ℕ) (value : W) (rest : List ℕ) (p : Parts W) : Type 0 where
  pub is : pattern ≡ plain p.0
  pub word : value ≡ p.1
  pub behind : fields rest ≡ p.2

-- the parts, if they are accepted
abbrev pub AreFullParts : {W : Type 0} → List ℕ → W → List ℕ → Result (Parts W) DeckCause → Type 0
AreFullParts pattern value rest (Ok p) = IsParts pattern value rest p
AreFullParts pattern value rest (Err e) = ⊥
