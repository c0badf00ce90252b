use Rattle.std.proofs.Common.{◌∙◌, ap, arith, sym}
use Rattle.std.specs.Prelude.{◌≡◌, vec_len}
use Rattle.prove_tables.specs.Closed.{tables_with}
use Rattle.prove_tables.proofs.ClosedLemmas.{with_sums, without_sums}
use Rattle.prove_tables.proofs.closing.are_proved.Goals as goal

pub returns-then-is_empty : goal.returns-then-is_empty
returns-then-is_empty c =
    let none : vec_len c.args.subject.now.rules.now.balances ≡ 0 = grind (arith, c.is_empty.ensures, c.if-is_empty.true, c.if-is_empty.ensures) in
    λ e. without_sums c.args.subject.now.rules.now _ none (c.in_ok-are_closed.ensures c.if-not-branch.false)

pub returns : goal.returns
returns c =
    with_sums c.args.subject.now.rules.now _ _ c.have_sums.result (ap (λ n. tables_with c.args.subject.now.rules.now n c.args.found.now.tables) (c.as_slice-3.ensures.value ∙ sym c.as_slice-4.ensures.value))
    (c.in_ok-are_closed.ensures c.if-not-branch.false) c.have_sums.ensures
