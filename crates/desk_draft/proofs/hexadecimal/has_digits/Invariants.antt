use Rattle.std.proofs.Common.{◌≡◌, drop}
use Rattle.mc_text.specs.model_text.specs.Text.{every}
use Rattle.desk_draft.specs.Views.{is_hex}
use Rattle.desk_draft.proofs.hexadecimal.has_digits.Given as goal

-- what is left has digits alone just where the whole has
abbrev pub invariant-loop-character : goal.invariant-loop-character
invariant-loop-character l = every is_hex (drop l.character-index l.text) ≡ every is_hex l.text
