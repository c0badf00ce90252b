use Rattle.std.proofs.Common.{◌≡◌, arith, true, false, length}
use Rattle.std.specs.Prelude.{◌==◌}
use Rattle.prove_rules.proofs.FieldLemmas.{no_bracket, register_is, text_after}
use Rattle.prove_rules.proofs.range.register_field.Goals as goal

pub returns-in_err-within : goal.returns-in_err-within
returns-in_err-within c = rw c.from_residual-in_err-within.ensures (no_bracket c.args.text.now c.in_ok-register.register.now c.in_ok-register.rest.now c.in_ok-register.ensures c.in_err-within.ensures)

pub returns-then-not-is_empty : goal.returns-then-not-is_empty
returns-then-not-is_empty c =
    let some : (length c.in_ok-within.after.now == 0) ≡ false = grind (arith, c.is_empty.ensures, c.if-not-is_empty.true, c.if-not-is_empty.ensures) in
    text_after c.args.text.now c.in_ok-register.register.now c.in_ok-register.rest.now c.in_ok-within.within.now c.in_ok-within.after.now c.in_ok-register.ensures c.in_ok-within.ensures some

pub returns : goal.returns
returns c =
    let none : (length c.in_ok-within.after.now == 0) ≡ true = grind (arith, c.is_empty.ensures, c.if-not-is_empty.false, c.if-not-is_empty.ensures) in
    register_is c.args.text.now c.in_ok-register.register.now c.in_ok-register.rest.now c.in_ok-within.within.now c.in_ok-within.after.now c.in_ok-register.ensures c.in_ok-within.ensures none
