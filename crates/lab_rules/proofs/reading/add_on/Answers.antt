use Rattle.mc_text.specs.model_text.specs.Text.{fields}
use Rattle.lab_rules.specs.Meanings.{allowance_values}
use Rattle.lab_rules.proofs.OnLemmas.{on_added, on_faulty}
use Rattle.lab_rules.proofs.reading.add_on.Goals as goal

pub returns-in-Err-clause-refused : goal.returns-in-Err-clause-refused
returns-in-Err-clause-refused c = λ r statement are.
    on_faulty r c.args.number statement (fields c.args.text.now) (allowance_values c.args.rules.now.allowances.items) c.in-Err.fault are.allowances c.in-Err.ensures

pub returns-clause-added : goal.returns-clause-added
returns-clause-added c = λ r statement are.
    on_added c.args.rules.now.moves.items c.args.rules.now.allowances.items c.args.rules.now.ons.items c.push.new.self.items r c.args.number statement (fields c.args.text.now) c.in-Ok.rule
    c.in-Ok-push.ensures.items c.in-Ok.ensures are
