use Rattle.prove_facts.proofs.BitLemmas.{and_words}
use Rattle.prove_facts.proofs.SetLemmas.{common_is}
use Rattle.prove_facts.proofs.values.Values.and.Goals as goal

pub returns-clause-values : goal.returns-clause-values
returns-clause-values c v h = and_words c.args.self.now.words c.args.other.now.words v h

pub returns-clause-set : goal.returns-clause-set
returns-clause-set c = common_is _ c.args.self.now.words c.args.other.now.words (λ v h. and_words c.args.self.now.words c.args.other.now.words v h)
