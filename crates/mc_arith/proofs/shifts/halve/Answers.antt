use Rattle.std.proofs.Common.{◌+◌, ◌*◌, arith, get_or, refl}
use Rattle.law_rows.proofs.StepLemmas.{half_step}
use Rattle.mc_arith.proofs.shifts.halve.Goals as goal

pub loop-i-preserved : goal.loop-i-preserved
loop-i-preserved c = record {
  half = half_step _ c.loop-i.a c.loop-i.i (c.loop-i.i + 1) c.loop-i.carry (256 * c.loop-i.carry + get_or c.loop-i.a c.loop-i.i 0) refl (omega arith) refl c.loop-i.invariant.half;
  bit = omega arith;
}
