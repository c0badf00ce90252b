use Rattle.law_rows.proofs.SpellingLemmas.{spelling_decoded}
use Rattle.mc_isa.proofs.laws.a_spelling_is_decoded.Goals as goal

pub returns : goal.returns
returns c = spelling_decoded
