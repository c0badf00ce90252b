use Rattle.std.proofs.Common.{◌≡◌, List, map, Ok, Err, subst, sym}
use Rattle.model_rule_text.specs.Reading.{are_names, are_sums, Deck}
use Rattle.lab_app_rules.specs.declared.rules.Named.{Named}
use Rattle.lab_app_rules.specs.Rules.{allowance_of}
use Rattle.prove_rules.specs.Always.{term_of, AreNoSums}
use Rattle.prove_rules.specs.declared.always.SignedName.{SignedName}
use Rattle.std.proofs.lemmas.Result.{err_from_is_err_and}
use Rattle.prove_rules.proofs.AlwaysLemmas.{constant_refused, names_refused, no_start, no_stop, no_sums, total_unnamed, AreTotalNumbers}
use Rattle.prove_rules.proofs.always.read_total.Goals as goal

pub returns-in_err-from-clause-refused : goal.returns-in_err-from-clause-refused
returns-in_err-from-clause-refused c =
    let p = err_from_is_err_and c.from_residual.result c.from_residual.ensures.1 in
    rw (p.1, p.2, c.in_err-from.ensures.refused.0) (λ a n are. no_start a n c.args.form.now c.in_err-from.ensures.refused.1)

pub returns-in_err-to-clause-refused : goal.returns-in_err-to-clause-refused
returns-in_err-to-clause-refused c =
    let p = err_from_is_err_and c.from_residual-in_err-to.result c.from_residual-in_err-to.ensures.1 in
    rw (p.1, p.2, c.in_err-to.ensures.refused.0) (λ a n are. no_stop a n c.args.form.now c.in_ok-from.ensures.number.number c.in_ok-from.ensures.number.is c.in_err-to.ensures.refused.1)

pub returns-in_err-constant-clause-refused : goal.returns-in_err-constant-clause-refused
returns-in_err-constant-clause-refused c =
    let p = err_from_is_err_and c.from_residual-in_err-constant.result c.from_residual-in_err-constant.ensures.1 in
    rw (p.1, p.2) (λ a n are. constant_refused a n c.args.form.now c.in_ok-from.ensures.number.number c.in_ok-to.ensures.number.number c.in_err-constant.field-0.0 c.in_ok-from.ensures.number.is c.in_ok-to.ensures.number.is (sym c.in_err-constant.ensures))

pub returns-in_err-check_names-clause-refused : goal.returns-in_err-check_names-clause-refused
returns-in_err-check_names-clause-refused c =
    let p = err_from_is_err_and c.from_residual-in_err-check_names.result c.from_residual-in_err-check_names.ensures.1 in
    rw (p.1, p.2) (λ a n are. names_refused a n c.args.form.now c.in_ok-from.ensures.number.number c.in_ok-to.ensures.number.number c.in_ok-constant.constant c.in_err-check_names.field-0.0 c.in_ok-from.ensures.number.is c.in_ok-to.ensures.number.is (sym c.in_ok-constant.ensures)
    (subst (λ (l : List SignedName). are_names (map term_of l) ≡ Err (Deck c.in_err-check_names.field-0.0)) c.as_slice.ensures.value c.in_err-check_names.ensures.refused))

pub returns-in_err-load-clause-refused : goal.returns-in_err-load-clause-refused
returns-in_err-load-clause-refused c =
    let p = err_from_is_err_and c.from_residual-in_err-load.result c.from_residual-in_err-load.ensures.1 in
    let numbers : AreTotalNumbers c.args.form.now c.in_ok-from.from c.in_ok-to.to c.in_ok-constant.constant = record {
      starts = c.in_ok-from.ensures.number;
      stops = c.in_ok-to.ensures.number;
      number = sym c.in_ok-constant.ensures;
      named = subst (λ (l : List SignedName). are_names (map term_of l) ≡ Ok (map term_of l)) c.as_slice.ensures.value c.in_ok-check_names.ensures.named;
    } in
    rw (p.1, p.2, c.in_err-load.ensures.refused.0) (λ a n are. total_unnamed a n c.args.form.now c.args.rules.now c.in_ok-from.from c.in_ok-to.to c.in_ok-constant.constant are numbers c.in_err-load.ensures.refused.1)

pub returns-in_err-sums-clause-refused : goal.returns-in_err-sums-clause-refused
returns-in_err-sums-clause-refused c =
    let p = err_from_is_err_and c.from_residual-in_err-sums.result c.from_residual-in_err-sums.ensures.1 in
    let numbers : AreTotalNumbers c.args.form.now c.in_ok-from.from c.in_ok-to.to c.in_ok-constant.constant = record {
      starts = c.in_ok-from.ensures.number;
      stops = c.in_ok-to.ensures.number;
      number = sym c.in_ok-constant.ensures;
      named = subst (λ (l : List SignedName). are_names (map term_of l) ≡ Ok (map term_of l)) c.as_slice.ensures.value c.in_ok-check_names.ensures.named;
    } in
    rw (p.1, p.2) (λ a n are. no_sums a n c.args.form.now c.args.rules.now c.in_ok-from.from c.in_ok-to.to c.in_ok-constant.constant (record { aid = c.in_ok-load.ensures.load.0; load = c.in_ok-load.load }) c.in_err-sums.field-0.0 are numbers c.in_ok-load.ensures.load.1
    (subst (λ (l : List SignedName). AreNoSums (are_sums (map allowance_of c.args.rules.now.sums.items) (map term_of l)) c.in_err-sums.field-0.0) c.as_slice-3.ensures.value
    (subst (λ (l : List Named). AreNoSums (are_sums (map allowance_of l) (map term_of c.as_slice-3.result.now)) c.in_err-sums.field-0.0) c.as_slice-2.ensures.value c.in_err-sums.ensures.refused)))
