use Rattle.std.proofs.Common.{[], ◌∙◌, refl}
use Rattle.std.proofs.lemmas.List.{length-set}
use Rattle.mc_des.proofs.ScheduleLemmas.{schedule_init, schedule_step, schedule_end, half_low}
use Rattle.mc_des.proofs.keys.round_keys.Goals as goal

pub loop-i-init : goal.loop-i-init
loop-i-init c =
    record {
      left = half_low _;
      right = half_low _;
      size = refl;
      keys = schedule_init c.args.key c.halves-start.result _ _ [] c.halves-start.ensures refl refl;
    }

pub loop-i-preserved : goal.loop-i-preserved
loop-i-preserved c =
    record {
      left = c.turned-left.ensures.low;
      right = c.turned-right.ensures.low;
      size = length-set c.loop-i.keys c.loop-i.i c.round_key.result ∙ c.loop-i.invariant.size;
      keys = schedule_step c.loop-i.i c.shift_of-by.result c.loop-i.left c.loop-i.right _ _ _ _ c.loop-i.keys _ c.loop-i-test.true c.loop-i.invariant.size c.shift_of-by.ensures.value
          c.loop-i.invariant.keys c.turned-left.ensures.low c.turned-left.ensures.value c.turned-right.ensures.low c.turned-right.ensures.value refl c.round_key.ensures;
    }

pub returns : goal.returns
returns c = schedule_end c.loop-i.i c.loop-i.left c.loop-i.right c.loop-i.keys _ c.loop-i-test.false c.loop-i.invariant.size c.loop-i.invariant.keys
