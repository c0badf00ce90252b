use Rattle.law_rows.proofs.PlaceLemmas.{decoded_stands, decoded_only}
use Rattle.mc_isa.proofs.laws.one_answer_at_each_place.Goals as goal

pub returns : goal.returns
returns c = record { holds = decoded_stands; only = decoded_only }
