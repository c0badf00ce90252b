use Rattle.law_explore_text.specs.Report.{explore_text}
use Rattle.lab_search.proofs.search.explore.Goals as goal

pub returns : goal.returns
unfolding explore_text
returns g c = c.explore_within.ensures
