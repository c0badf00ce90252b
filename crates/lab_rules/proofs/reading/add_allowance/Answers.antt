use Rattle.std.proofs.Common.{arith}
use Rattle.mc_text.specs.model_text.specs.Text.{fields}
use Rattle.lab_rules.proofs.OnLemmas.{allow_faulty, allow_new, allow_there}
use Rattle.lab_rules.proofs.reading.add_allowance.Goals as goal

pub returns-in-Err-clause-refused : goal.returns-in-Err-clause-refused
returns-in-Err-clause-refused c = λ r n statement are. allow_faulty r n statement (fields c.args.text.now) c.in-Err.cause c.in-Err.ensures

pub returns-then-is_some-clause-refused : goal.returns-then-is_some-clause-refused
returns-then-is_some-clause-refused c = λ r n statement are.
    allow_there c.args.rules.now.moves.items c.args.rules.now.allowances.items c.args.rules.now.ons.items r n statement c.in-Ok.fields.0.now c.in-Ok.fields.1 c.allowance_named.result (fields c.args.text.now)
    c.in-Ok.ensures c.allowance_named.ensures (grind (arith, c.is_some.ensures, c.if-is_some.true)) are

pub returns-clause-added : goal.returns-clause-added
returns-clause-added c = λ r n statement are.
    allow_new c.args.rules.now.moves.items c.args.rules.now.allowances.items c.push.new.self.items c.args.rules.now.ons.items r n statement (record { name = c.in-Ok.fields.0; amount = c.in-Ok.fields.1 }) c.allowance_named.result (fields c.args.text.now)
    c.in-Ok-push.ensures.items c.in-Ok.ensures c.allowance_named.ensures (grind (arith, c.is_some.ensures, c.if-is_some.false)) are
