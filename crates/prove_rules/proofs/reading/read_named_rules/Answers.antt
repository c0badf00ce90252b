use Rattle.prove_rules.proofs.CountLemmas.{few_lines}
use Rattle.prove_rules.proofs.ReadLemmas.{lines_refuse, rules_finished, unfinished}
use Rattle.prove_rules.proofs.reading.read_named_rules.Goals as goal

pub read_lines-requires-clause-few : goal.read_lines-requires-clause-few
read_lines-requires-clause-few c = few_lines c.args.text.now c.args.deck.now c.requires

pub returns-in-Ok-clause-read : goal.returns-in-Ok-clause-read
returns-in-Ok-clause-read c = rules_finished c.args.text.now c.args.deck.now c.in-Ok.rules c.finished.result c.requires c.in-Ok.ensures.read c.finished.ensures.finished

pub returns-in-Ok-clause-refused : goal.returns-in-Ok-clause-refused
returns-in-Ok-clause-refused c = unfinished c.args.text.now c.args.deck.now c.in-Ok.rules c.finished.result c.requires c.in-Ok.ensures.read c.finished.ensures.refused

pub returns-in-Err-clause-refused : goal.returns-in-Err-clause-refused
returns-in-Err-clause-refused c = lines_refuse c.args.text.now c.args.deck.now c.in-Err.refusal c.requires c.in-Err.ensures.refused
