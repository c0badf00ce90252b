use Rattle.law_explore_text.proofs.Texts.{text_law}
use Rattle.law_explore_text.proofs.laws.a_text_that_says_all_is_safe.Goals as goal

pub returns : goal.returns
returns c = text_law
