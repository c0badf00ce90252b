use Rattle.std.proofs.lemmas.Result.{on_ok_weaker, IfErr-weaker}
use Rattle.mc_text.specs.model_text.specs.Text.{fields}
use Rattle.prove_rules.specs.Partials.{HasFault}
use Rattle.prove_rules.proofs.AppLemmas.{sum_added, sum_refused, NamedFault}
use Rattle.model_rule_text.specs.Reading.{SumWord}
use Rattle.prove_rules.proofs.app.add_sum.Goals as goal

pub returns-clause-added : goal.returns-clause-added
returns-clause-added c = on_ok_weaker c.add_named.result (λ h loads a n are. sum_added loads a c.args.rules.now n (fields c.args.text.now) c.add_named.new.list.items are h) c.add_named.ensures.more

pub returns-clause-refused : goal.returns-clause-refused
returns-clause-refused c =
    IfErr-weaker c.add_named.result (HasFault c.args.rules.now.sums.items (fields c.args.text.now)) (NamedFault c.args.rules.now SumWord (fields c.args.text.now))
    (λ e h loads a n are. sum_refused loads a c.args.rules.now n (fields c.args.text.now) e are h) c.add_named.ensures.refused
