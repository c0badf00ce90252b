use Rattle.std.proofs.Common.{◌≡◌, drop}
use Rattle.model_text.specs.Text.{every, is_name_character}
use Rattle.mc_text.proofs.reading.has_name_characters.Given as goal

-- the characters that are left pass the test exactly if all pass it
abbrev pub invariant-loop-character : goal.invariant-loop-character
invariant-loop-character l = every is_name_character (drop l.character-index l.text) ≡ every is_name_character l.fn.text
