use Rattle.std.proofs.Common.{arith}
use Rattle.std.proofs.lemmas.Result.{err_from_is_err_and}
use Rattle.mc_text.specs.model_text.specs.Text.{fields}
use Rattle.prove_rules.specs.Parts.{deeds_value}
use Rattle.prove_rules.proofs.OnLemmas.{answer_empty, answer_none, no_items, result_empty, result_none, some_items}
use Rattle.prove_rules.proofs.on.answer_head.Goals as goal

pub returns-in_err-pattern-clause-refused : goal.returns-in_err-pattern-clause-refused
returns-in_err-pattern-clause-refused c =
    let p = err_from_is_err_and c.from_residual.result c.from_residual.ensures.1 in
    rw (p.1, p.2) (answer_none (fields c.args.text.now) c.in_err-pattern.field-0.0 c.in_err-pattern.ensures.refused)

pub returns-then-is_empty-clause-refused : goal.returns-then-is_empty-clause-refused
returns-then-is_empty-clause-refused c =
    answer_empty (fields c.args.text.now) c.in_ok-pattern.pattern.items c.in_ok-pattern.after.now c.bad_line.result c.in_ok-pattern.ensures.parts (no_items c.in_ok-pattern.pattern.items (grind (arith, c.is_empty.ensures, c.if-is_empty.true, c.if-is_empty.ensures))) c.bad_line.ensures

pub returns-in_err-result-clause-refused : goal.returns-in_err-result-clause-refused
returns-in_err-result-clause-refused c =
    let p = err_from_is_err_and c.from_residual-in_err-result.result c.from_residual-in_err-result.ensures.1 in
    rw (p.1, p.2) (result_none (fields c.args.text.now) c.in_ok-pattern.pattern.items c.in_ok-pattern.after.now c.in_err-result.field-0.0 c.in_ok-pattern.ensures.parts (some_items c.in_ok-pattern.pattern.items (grind (arith, c.is_empty.ensures, c.if-is_empty.false, c.if-is_empty.ensures))) c.in_err-result.ensures.refused)

pub returns-then-is_empty-2-clause-refused : goal.returns-then-is_empty-2-clause-refused
returns-then-is_empty-2-clause-refused c =
    result_empty (fields c.args.text.now) c.in_ok-pattern.pattern.items c.in_ok-pattern.after.now c.in_ok-result.result.items (deeds_value c.in_ok-result.deeds) c.in_ok-result.after.now c.bad_line-then-is_empty-2.result
    c.in_ok-pattern.ensures.parts (some_items c.in_ok-pattern.pattern.items (grind (arith, c.is_empty.ensures, c.if-is_empty.false, c.if-is_empty.ensures))) c.in_ok-result.ensures.parts (no_items c.in_ok-result.result.items (grind (arith, c.is_empty-2.ensures, c.if-is_empty-2.true, c.if-is_empty-2.ensures))) c.bad_line-then-is_empty-2.ensures
