use Rattle.std.proofs.Common.{◌≡◌, arith, true, false, length}
use Rattle.std.specs.Prelude.{◌==◌}
use Rattle.prove_rules.proofs.FieldLemmas.{no_ends, one_end_of, rest_of_cut, text_between, two_ends}
use Rattle.prove_rules.proofs.range.range_ends.Goals as goal

pub returns-in_default : goal.returns-in_default
returns-in_default c = one_end_of c.args.text.now c.cut.result.0.now c.cut.result.1 c.in_default.is c.cut.ensures.front c.cut.ensures.behind

pub returns-in_err-middle : goal.returns-in_err-middle
returns-in_err-middle c = rw c.from_residual.ensures (no_ends c.args.text.now c.in-Some.rest.now (rest_of_cut c.args.text.now c.in-Some.rest c.cut.result.1 c.in-Some.is c.cut.ensures.behind) c.in_err-middle.ensures)

pub returns-then-not-is_empty : goal.returns-then-not-is_empty
returns-then-not-is_empty c =
    let some : (length c.in_ok-middle.middle.now == 0) ≡ false = grind (arith, c.is_empty.ensures, c.if-not-is_empty.true, c.if-not-is_empty.ensures) in
    text_between c.args.text.now c.in-Some.rest.now c.in_ok-middle.middle.now c.in_ok-middle.to.now (rest_of_cut c.args.text.now c.in-Some.rest c.cut.result.1 c.in-Some.is c.cut.ensures.behind) c.in_ok-middle.ensures some

pub returns : goal.returns
returns c =
    let none : (length c.in_ok-middle.middle.now == 0) ≡ true = grind (arith, c.is_empty.ensures, c.if-not-is_empty.false, c.if-not-is_empty.ensures) in
    two_ends c.args.text.now c.cut.result.0.now c.in-Some.rest.now c.in_ok-middle.middle.now c.in_ok-middle.to.now c.cut.ensures.front (rest_of_cut c.args.text.now c.in-Some.rest c.cut.result.1 c.in-Some.is c.cut.ensures.behind) c.in_ok-middle.ensures none
