use Rattle.std.proofs.Common.{refl}
use Rattle.std.proofs.lemmas.Result.{err_from_is_err_and}
use Rattle.desk_draft.specs.Views.{scope_of}
use Rattle.desk_draft.proofs.ScopeLemmas.{const_twice, const_taken}
use Rattle.desk_draft.proofs.scope.declare_constant.Goals as goal

pub returns-in_err-declare : goal.returns-in_err-declare
returns-in_err-declare c = λ l h.
    let p = err_from_is_err_and c.from_residual-in_err-declare.result c.from_residual-in_err-declare.ensures.1 in
    rw (p.1, p.2) (const_twice (scope_of c.args.scope.now l) c.args.name.now c.args.number.now c.in_err-declare.field-0.0 c.in_ok-check_name.ensures c.in_ok-check_constant.ensures (c.in_err-declare.ensures l h))

pub returns : goal.returns
returns c = λ l h.
    let given = c.in_ok-declare.ensures l h in
    const_taken c.args.scope.now (record { names = c.declare.new.names; fixed = c.args.scope.now.fixed; session = c.args.scope.now.session; data_bytes = c.args.scope.now.data_bytes }) l c.args.name.now c.args.number.now c.in_ok-check_name.ensures c.in_ok-check_constant.ensures given refl refl refl
