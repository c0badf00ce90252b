use Rattle.std.proofs.Common.{◌+◌, ◌*◌, ◌-◌, get_or, ap, drop, sym, ◌∙◌}
use Rattle.std.specs.Prelude.{option_map}
use Rattle.mc_text.specs.Reading.{capped_number, decimal_behind}
use Rattle.mc_text.proofs.ReadingLemmas.{decimal_step, capped_is}
use Rattle.std.proofs.lemmas.List.{drop_more}
use Rattle.mc_text.proofs.reading.decimal_number.Goals as goal

pub loop-digit-preserved : goal.loop-digit-preserved
loop-digit-preserved c =
    let digit = get_or c.args.digits.now c.loop-digit.digit-index 0 in
    let left = drop (c.loop-digit.digit-index + 1) c.args.digits.now in
    record {
      value =
          ap (λ n. option_map capped_number (decimal_behind n left)) c.with_digit-number.ensures
          ∙ decimal_step c.loop-digit.number digit left (sym c.is_digit.ensures ∙ c.if-not-is_digit.false)
          ∙ ap (λ t. option_map capped_number (decimal_behind c.loop-digit.number t)) (sym (drop_more c.args.digits.now c.loop-digit.digit-index 0 c.loop-digit-test.true))
          ∙ c.loop-digit.invariant.value;
      bound = capped_is (c.loop-digit.number * 10 + (digit - 48)) c.with_digit-number.result c.with_digit-number.ensures;
    }
