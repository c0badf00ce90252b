use Rattle.std.proofs.lemmas.Result.{err_from_is_err_and}
use Rattle.mc_text.specs.model_text.specs.Text.{fields}
use Rattle.model_rule_text.specs.Reading.{on_line}
use Rattle.prove_rules.proofs.OnLemmas.{on_added}
use Rattle.prove_rules.proofs.on.add_on.Goals as goal

pub returns-in_err-on-clause-refused : goal.returns-in_err-on-clause-refused
returns-in_err-on-clause-refused c =
    let p = err_from_is_err_and c.from_residual.result c.from_residual.ensures.1 in
    rw (p.1, p.2) c.in_err-on.ensures.refused

pub returns-clause-added : goal.returns-clause-added
returns-clause-added c = λ a are.
    on_added a c.args.rules.now (on_line a c.args.line (fields c.args.text.now)) c.in_ok-on.on c.push.new.list.items are (c.in_ok-on.ensures.read a are) c.in_ok-push.ensures
