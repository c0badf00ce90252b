-- Sections line by line.
use Rattle.std.proofs.Common.{◌≡◌, ℕ, List, [], ◌∷◌, take, refl}
use Rattle.model_play.specs.model_text.specs.Text.{◌>>=◌}
use Rattle.model_play.specs.model_text.specs.Text.{is_end}
use Rattle.model_play.specs.DeckGrammar.{is_data, data_hex, section_data, section_unit, made_unit, Section}
use Rattle.mc_deck.specs.Sections.{section_code, unit_judged}

-- the first five fields determine the end of a section
pub end_five : (ts : List (List ℕ)) → is_end (take 5 ts) ≡ is_end ts
end_five [] = refl
end_five (a ∷ []) = refl
end_five (a ∷ b ∷ ts) = refl

pub data_five : (ts : List (List ℕ)) → is_data (take 5 ts) ≡ is_data ts
data_five [] = refl
data_five (a ∷ ts) = refl

pub hex_five : (ts : List (List ℕ)) → data_hex (take 5 ts) ≡ data_hex ts
hex_five [] = refl
hex_five (a ∷ []) = refl
hex_five (a ∷ b ∷ []) = refl
hex_five (a ∷ b ∷ d ∷ ts) = refl

-- ---- the unit

-- the unit of a section, step by step
pub unit_steps : (s : Section) (n : ℕ) → section_unit s n ≡ (section_data s.lines >>= λ init. section_code s.lines >>= λ code. unit_judged n (made_unit s.aid code init))
unfolding section_unit
unit_steps s n = refl
