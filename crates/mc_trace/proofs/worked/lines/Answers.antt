use Rattle.std.proofs.Common.{refl}
use Rattle.std.specs.Fmt.{digits}
use Rattle.model_text.specs.TurnText.{turn_line}
use Rattle.mc_trace.proofs.worked.lines.Goals as goal

pub returns : goal.returns
unfolding turn_line digits
returns c = record { exit = refl; compare = refl; jump = refl; none = refl }
