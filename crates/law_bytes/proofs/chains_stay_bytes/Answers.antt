use Rattle.law_bytes.proofs.ChainBytes.{turn_bytes, run_bytes, start_bytes}
use Rattle.law_bytes.proofs.chains_stay_bytes.Goals as goal

pub returns : goal.returns
returns c = record { turn = turn_bytes; run = run_bytes; start = start_bytes }
