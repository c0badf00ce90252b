use Rattle.law_explore_text.proofs.Depths.{depth_text_law}
use Rattle.law_explore_text.proofs.laws.a_text_that_says_depth_is_safe.Goals as goal

pub returns : goal.returns
returns c = depth_text_law
