use Rattle.law_sums.proofs.MoveLemmas.{offs_hold, mores_hold}
use Rattle.law_sums.proofs.OriginMoves.{origins_written}
use Rattle.law_sums.proofs.writes_move_blocks.Goals as goal

pub returns : goal.returns
returns c = λ ts u first m k sums a gs by w h.
    record {
      origins = origins_written first m k a gs u.origins w.stays w.from h.origins;
      mores = mores_hold first m k u.mores a _ by w.stays w.moves h.mores;
      offs = offs_hold first m k sums ts u.offs a _ by w.stays w.moves h.offs;
    }
