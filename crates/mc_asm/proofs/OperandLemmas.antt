-- Operands by their parts.
use Rattle.std.proofs.Common.{arith, ◌≡◌, ℕ, List, Option, Some, None, Result, Err}
use Rattle.std.specs.Prelude.{ℤ, FitsSigned, ◌==◌}
use Rattle.std.specs.Int.{w16, cast_signed, cast_unsigned}
use Rattle.std.proofs.lemmas.Int.{to_z-of_z}
use Rattle.model_text.specs.declared.assembler.AsmCause.{AsmCause}
use Rattle.model_text.specs.declared.assembler.AsmCause.TheVariants.{BadOperands}
use Rattle.model_text.specs.Text.{pieces}
use Rattle.model_text.specs.Listing.{register_names}
use Rattle.model_text.specs.Assembly.{address, place_among, offset_and_end, register_and_rest}
use Rattle.mc_asm.specs.Parts.{pair_of, two_parts, offset_in}

-- the tag and the offset after the register's name, from the two parts of that text
abbrev pub offset_after : Option ℕ → List ℕ → Result (ℕ × ℤ) AsmCause
offset_after None rest = Err BadOperands
offset_after (Some tag) rest = offset_in tag (two_parts 93 rest)

abbrev pub address_after : Option (List ℕ × List ℕ) → Result (ℕ × ℤ) AsmCause
address_after None = Err BadOperands
address_after (Some p) = offset_after (place_among 1 register_names p.0) p.1

offset_pieces : (o : Option ℕ) (ps : List (List ℕ)) (rest : List ℕ) → pieces (λ c. c == 93) rest ≡ ps → offset_and_end o ps ≡ offset_after o rest
offset_pieces o ps rest e = grind arith

register_pieces : (ps : List (List ℕ)) → register_and_rest ps ≡ address_after (pair_of ps)
register_pieces ps = grind (arith, offset_pieces)

pub address_parts : (t : List ℕ) → address t ≡ address_after (two_parts 91 t)
address_parts t = register_pieces (pieces (λ c. c == 91) t)

-- an offset in its range is unchanged by two bytes
pub offset_kept : (z : ℤ) → FitsSigned w16 z → cast_signed w16 (cast_unsigned w16 z) ≡ z
offset_kept z h = to_z-of_z w16 z h
