use Rattle.prove_facts.proofs.BitLemmas.{or_words}
use Rattle.prove_facts.proofs.SetLemmas.{union_is}
use Rattle.prove_facts.proofs.values.Values.or.Goals as goal

pub returns-clause-values : goal.returns-clause-values
returns-clause-values c v h = or_words c.args.self.now.words c.args.other.now.words v h

pub returns-clause-set : goal.returns-clause-set
returns-clause-set c = union_is _ c.args.self.now.words c.args.other.now.words (λ v h. or_words c.args.self.now.words c.args.other.now.words v h)
