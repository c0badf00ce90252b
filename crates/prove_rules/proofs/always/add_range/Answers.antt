use Rattle.std.proofs.lemmas.Result.{err_from_is_err_and}
use Rattle.mc_text.specs.model_text.specs.Text.{fields}
use Rattle.prove_rules.proofs.AlwaysLemmas.{range_added}
use Rattle.prove_rules.proofs.always.add_range.Goals as goal

pub returns-in_err-range-clause-refused : goal.returns-in_err-range-clause-refused
returns-in_err-range-clause-refused c =
    let p = err_from_is_err_and c.from_residual.result c.from_residual.ensures.1 in
    rw (p.1, p.2) (λ a block are inside. c.in_err-range.ensures.refused a c.args.line block are inside)

pub returns-clause-added : goal.returns-clause-added
returns-clause-added c = λ a block are inside.
    range_added a c.args.rules.now c.args.line block c.args.at.now (fields c.args.text.now) c.in_ok-range.range c.push.new.list.items are inside c.requires c.in_ok-range.ensures.line c.in_ok-range.ensures.range c.in_ok-push.ensures
