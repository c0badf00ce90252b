use Rattle.law_sums.proofs.OriginLemmas.{number_value}
use Rattle.law_sums.proofs.bytes_are_their_forms.Goals as goal

pub returns : goal.returns
returns c = number_value
