use Rattle.law_bytes.proofs.PlayBytes.{play_bytes}
use Rattle.law_bytes.proofs.plays_stay_bytes.Goals as goal

pub returns : goal.returns
returns c = play_bytes
