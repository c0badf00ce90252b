-- The words that are printed for the causes of the decoder, and the numbers of abends.
use Rattle.std.specs.Prelude.{ℕ, List, codes}
use Rattle.model_machine.specs.declared.instruction.DecodeFault.{DecodeFault}
use Rattle.model_machine.specs.declared.instruction.DecodeFault.TheVariants as decode
use Rattle.model_machine.specs.declared.machine.Abend.{Abend}
use Rattle.model_machine.specs.declared.machine.Abend.TheVariants.{A01, A02, A03, A04, A05, A06, A07, A08, A09, A0A}

-- the printed word of why there is no instruction at a place
abbrev pub decode_word : DecodeFault → List ℕ
decode_word decode.Undefined = codes "Undefined"
decode_word decode.Past = codes "Past"

-- the number of an abend
abbrev pub abend_code : Abend → ℕ
abend_code A01 = 1
abend_code A02 = 2
abend_code A03 = 3
abend_code A04 = 4
abend_code A05 = 5
abend_code A06 = 6
abend_code A07 = 7
abend_code A08 = 8
abend_code A09 = 9
abend_code A0A = 10
