use Rattle.mc_aes.specs.State.{word}
use Rattle.mc_aes.proofs.StateLemmas.{matrix_column_alone}
use Rattle.mc_aes.proofs.rounds.mixed_back.Goals as goal

pub returns : goal.returns
unfolding word
returns c =
    matrix_column_alone 14 11 13 9 _ _ _ _ _ _ _ _ _ _ _ _
    c.column_back0.ensures c.column_back1.ensures c.column_back2.ensures c.column_back3.ensures
    c.byte0.ensures c.byte1.ensures c.byte2.ensures c.byte3.ensures
