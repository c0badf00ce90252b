use Rattle.std.proofs.Common.{refl}
use Rattle.std.specs.Fmt.{digits}
use Rattle.mc_isa.proofs.worked.blocks_rows_as_text.Goals as goal

pub returns : goal.returns
unfolding digits
returns c = record { row_1 = refl; row_2 = refl; row_3 = refl; row_4 = refl; row_5 = refl; row_6 = refl; row_7 = refl; row_8 = refl; row_9 = refl; row_10 = refl; row_11 = refl }
