-- The line that names the application, as the code reads it.
use Rattle.std.specs.Prelude.{◌≡◌, ℕ, List, [], ◌∷◌, true, Option, Some, None, Ok}
use Rattle.mc_words.specs.model_device.specs.Bytes.{lookup}
use Rattle.model_rule_text.specs.model_play.specs.DeckGrammar.{name_field}
use Rattle.model_rule_text.specs.Reading.{LoadLine}
use Rattle.prove_rules.specs.declared.load.Found.{Found}
use Rattle.prove_rules.specs.declared.partial.Partial.{Partial}
use Rattle.prove_rules.specs.Loads.{is_accepted, IsLoadOf}

-- the only one of some texts
abbrev pub one_of : List (List ℕ) → Option (List ℕ)
one_of (a ∷ []) = Some a
one_of other = None

-- fields are the name of an application that is loaded
pub record IsAppRead (loads : List (List ℕ × LoadLine)) (p : Partial) (fs : List (List ℕ)) (found : Found) : Type 0 where
  pub name : List ℕ
  pub parts : fs ≡ name ∷ []
  pub named : name_field name ≡ Ok name
  pub new : p.load ≡ None
  pub is : IsLoadOf (lookup loads name) found
  pub accepted : is_accepted found.load ≡ true
