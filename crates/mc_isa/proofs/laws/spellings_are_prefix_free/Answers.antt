use Rattle.law_rows.proofs.SpellingLemmas.{prefix_free}
use Rattle.mc_isa.proofs.laws.spellings_are_prefix_free.Goals as goal

pub returns : goal.returns
returns c = prefix_free
