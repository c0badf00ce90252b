use Rattle.mc_blocks.proofs.Layouts.{layout_law}
use Rattle.mc_blocks.proofs.laws.holds_layout.Goals as goal

pub returns : goal.returns
returns c = layout_law
