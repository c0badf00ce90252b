use Rattle.prove_facts.proofs.BitLemmas.{not_words}
use Rattle.prove_facts.proofs.values.Values.not.Goals as goal

pub returns : goal.returns
returns c v h = not_words c.args.self.now.words c.inverted.result c.inverted-2.result c.inverted-3.result c.inverted-4.result v c.inverted.ensures c.inverted-2.ensures c.inverted-3.ensures c.inverted-4.ensures h
