use Rattle.std.proofs.Common.{◌∙◌}
use Rattle.mellab.proofs.DepthLemmas.{few_bound, few_value}
use Rattle.mellab.proofs.job.few_digits.Goals as goal

pub returns-clause-value : goal.returns-clause-value
returns-clause-value c = c.decimal_number.ensures ∙ few_value c.args.digits.now c.requires

pub returns-clause-bound : goal.returns-clause-bound
returns-clause-bound c = few_bound c.args.digits.now c.decimal_number.result c.decimal_number.ensures c.requires
