-- Two parts of a text, and operands.
use Rattle.std.specs.Prelude.{ℕ, ℤ, ◌==◌, List, [], ◌∷◌, Option, Some, None, Result, Err}
use Rattle.model_text.specs.declared.assembler.AsmCause.{AsmCause}
use Rattle.model_text.specs.declared.assembler.AsmCause.TheVariants.{BadOperands}
use Rattle.model_text.specs.Text.{ok_as, pieces}
use Rattle.model_text.specs.Assembly.{signed_operand}

-- the two elements of a list, if it has two
abbrev pub pair_of : {A : Type 0} → List A → Option (A × A)
pair_of (a ∷ b ∷ []) = Some (a, b)
pair_of l = None

-- the two parts of a text, if the character c separates it exactly once
abbrev pub two_parts : ℕ → List ℕ → Option (List ℕ × List ℕ)
two_parts c t = pair_of (pieces (λ d. d == c) t)

-- the tag and the offset, which is the text before a bracket that ends the text
abbrev pub offset_in : ℕ → Option (List ℕ × List ℕ) → Result (ℕ × ℤ) AsmCause
offset_in tag None = Err BadOperands
offset_in tag (Some (off, [])) = ok_as (λ z. (tag, z)) (signed_operand 32768 off)
offset_in tag (Some (off, c ∷ t)) = Err BadOperands
