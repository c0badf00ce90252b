use Rattle.std.proofs.Common.{◌+◌, arith, sym, drop, ◌∙◌}
use Rattle.std.proofs.Common.{get_or, ap}
use Rattle.mc_asm.specs.Numbers.{hex_behind}
use Rattle.mc_asm.proofs.NumberLemmas.{hex_step, hex_room, hex_next, hex_end}
use Rattle.std.proofs.lemmas.List.{drop_more}
use Rattle.mc_asm.proofs.number.hex_number.Goals as goal

pub overflow_mul-number : goal.overflow_mul-number
overflow_mul-number c = let h = hex_room c.loop-digit.digit-index c.loop-digit.number (omega arith) c.loop-digit.invariant.bound in omega arith

pub overflow_add-number : goal.overflow_add-number
overflow_add-number c =
    let h = hex_room c.loop-digit.digit-index c.loop-digit.number (omega arith) c.loop-digit.invariant.bound in
    omega (arith, c.in_ok-number.ensures.bound, h)

pub loop-digit-preserved : goal.loop-digit-preserved
loop-digit-preserved c = record {
  value =
      hex_step c.loop-digit.number (get_or c.args.digits.now c.loop-digit.digit-index 0) c.in_ok-number.field-0 (drop (c.loop-digit.digit-index + 1) c.args.digits.now) (sym c.hex_value.ensures.value ∙ c.in_ok-number.was)
      ∙ ap (hex_behind c.loop-digit.number) (sym (drop_more c.args.digits.now c.loop-digit.digit-index 0 c.loop-digit-test.true)) ∙ c.loop-digit.invariant.value;
  bound = hex_next c.loop-digit.digit-index c.loop-digit.number c.in_ok-number.field-0 (omega arith) c.loop-digit.invariant.bound (c.in_ok-number.ensures.bound);
}

pub returns-clause-bound : goal.returns-clause-bound
returns-clause-bound c = hex_end c.loop-digit.digit-index c.loop-digit.number (omega arith) c.loop-digit.invariant.bound
