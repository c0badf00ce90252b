use Rattle.std.proofs.Common.{ap}
use Rattle.model_machine.specs.Aes.{sub}
use Rattle.mc_aes.proofs.StateLemmas.{matrix_column}
use Rattle.mc_aes.proofs.rounds.round_column.Goals as goal

pub returns : goal.returns
returns c =
    matrix_column 2 3 1 1 _ _ _ _ _ _ _ _ _ _ _ _ _
    c.column0.ensures c.column1.ensures c.column2.ensures c.column3.ensures
    (ap sub c.byte0.ensures) (ap sub c.byte1.ensures) (ap sub c.byte2.ensures) (ap sub c.byte3.ensures)
