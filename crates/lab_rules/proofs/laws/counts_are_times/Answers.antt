use Rattle.lab_rules.proofs.CountLemmas as lemma
use Rattle.lab_rules.proofs.laws.counts_are_times.Goals as goal

pub returns : goal.returns
returns c = lemma.counts_are_times
