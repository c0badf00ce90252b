use Rattle.std.proofs.Common.{◌∙◌, rules}
use Rattle.desk_steps.proofs.StatementLemmas.{rest_begin, rest_done, rest_next}
use Rattle.desk_steps.proofs.statements.rest_after.Goals as goal

pub loop-line-init : goal.loop-line-init
loop-line-init c = record { rest = rest_begin c.args.count c.args.text.now }

pub loop-line-preserved : goal.loop-line-preserved
loop-line-preserved c =
    record { rest = rest_next c.loop-line._line c.args.count c.loop-line.rest.now c.after_line-rest.result.now c.loop-line-test.true c.after_line-rest.ensures ∙ c.loop-line.invariant.rest }

pub returns : goal.returns
returns c = rest_done c.loop-line._line c.args.count c.loop-line.rest.now _ (search rules) c.loop-line.invariant.rest
