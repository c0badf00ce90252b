use Rattle.std.proofs.Common.{◌≡◌, suc, ◌-◌, ◌+◌, None, Some, sym, ◌∙◌, arith}
use Rattle.lab_rules.specs.Meanings.{effect_value}
use Rattle.lab_rules.proofs.AmountLemmas.{times_capped, times_none, times_step}
use Rattle.lab_rules.proofs.occasions.amount_times.Goals as goal

pub loop-time-preserved : goal.loop-time-preserved
loop-time-preserved c =
    let left : c.args.count - c.loop-time._time ≡ suc (c.args.count - (c.loop-time._time + 1)) = omega arith in
    sym (times_step (c.args.count - c.loop-time._time) (c.args.count - (c.loop-time._time + 1)) (effect_value c.args.on.now.effect) c.args.on.now.amount c.loop-time.left (Some c.in-Some.next) left c.in-Some.ensures) ∙ c.loop-time.invariant

pub returns-in-None : goal.returns-in-None
returns-in-None c = λ n is.
    let left : c.args.count - c.loop-time._time ≡ suc (c.args.count - (c.loop-time._time + 1)) = omega arith in
    let spent = sym (times_step (c.args.count - c.loop-time._time) (c.args.count - (c.loop-time._time + 1)) (effect_value c.args.on.now.effect) c.args.on.now.amount c.loop-time.left None left c.in-None.ensures) ∙ c.loop-time.invariant in
    times_capped n c.args.count (effect_value c.args.on.now.effect) c.args.on.now.amount c.args.amount None (omega arith) is spent

pub returns : goal.returns
returns c = λ n is.
    let none : c.args.count - c.loop-time._time ≡ 0 = omega arith in
    let done = sym (times_none (c.args.count - c.loop-time._time) (effect_value c.args.on.now.effect) c.args.on.now.amount c.loop-time.left none) ∙ c.loop-time.invariant in
    times_capped n c.args.count (effect_value c.args.on.now.effect) c.args.on.now.amount c.args.amount (Some c.loop-time.left) (omega arith) is done
