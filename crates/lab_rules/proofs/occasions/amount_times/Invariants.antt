use Rattle.std.proofs.Common.{◌≡◌, ◌-◌}
use Rattle.lab_rules.specs.Meanings.{effect_value}
use Rattle.lab_rules.specs.Occasions.{amount_times}
use Rattle.lab_rules.proofs.occasions.amount_times.Given as goal

-- the effects that are left do to the amount what all do to the first one
abbrev pub invariant-loop-time : goal.invariant-loop-time
invariant-loop-time l =
    amount_times (l.count - l._time) (effect_value l.on.effect) l.on.amount l.left ≡ amount_times l.fn.count (effect_value l.fn.on.effect) l.fn.on.amount l.fn.amount
