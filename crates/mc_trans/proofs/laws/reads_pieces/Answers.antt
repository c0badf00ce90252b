use Rattle.std.proofs.Common.{length, arith}
use Rattle.mc_trans.proofs.Overlay.{laid_covered, LieIn_begin}
use Rattle.mc_trans.proofs.laws.reads_pieces.Goals as goal

pub returns : goal.returns
returns c l ps i lie lt = laid_covered (length l) l ps i (LieIn_begin (length l) ps lie) (omega arith)
