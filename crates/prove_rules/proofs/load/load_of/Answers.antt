use Rattle.prove_rules.proofs.DeckLemmas.{line_loads}
use Rattle.prove_rules.proofs.LoadLemmas.{load_missing, loads_of_line}
use Rattle.prove_rules.proofs.load.load_of.Goals as goal

pub returns-in-Some : goal.returns-in-Some
returns-in-Some c = loads_of_line c.args.text.now c.args.name.now c.args.deck.now c.in-Some.number c.load_at.result c.in-Some.ensures (line_loads c.args.text.now c.args.name.now c.args.deck.now c.in-Some.number c.requires.deck c.in-Some.ensures) c.load_at.ensures

pub returns-in-None : goal.returns-in-None
returns-in-None c = load_missing c.args.text.now c.args.name.now c.args.deck.now c.in-None.ensures
