use Rattle.std.proofs.Common.{◌+◌, ◌∙◌}
use Rattle.desk_steps.proofs.GuardLemmas.{waits_begin, waits_next}
use Rattle.desk_steps.proofs.guard.Guard.keep.Goals as goal

pub loop-number-init : goal.loop-number-init
loop-number-init c = record { rest = waits_begin c.args.first c.args.count c.args.self.now }

pub loop-number-preserved : goal.loop-number-preserved
loop-number-preserved c =
    record { rest = waits_next c.loop-number.number (c.args.first + c.args.count) c.loop-number.self c.keep_word.new.self c.loop-number-test.true c.keep_word.ensures ∙ c.loop-number.invariant.rest }
