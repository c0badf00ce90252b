use Rattle.law_sums.proofs.KnownLemmas.{even_totals}
use Rattle.law_sums.proofs.even_totals_hold.Goals as goal

pub returns : goal.returns
returns c = λ ts first m sums os e h. even_totals first m sums ts os e h
