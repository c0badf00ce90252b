use Rattle.std.proofs.Common.{◌≡◌, ◌+◌, ◌∷◌, true, refl, subst, rules}
use Rattle.std.specs.Prelude.{is_none, option_map}
use Rattle.std.proofs.lemmas.Result.{err_from_is_err_and}
use Rattle.desk_draft.specs.Declarations.{NameMeaning}
use Rattle.desk_draft.specs.Views.{scope_of, AreNames}
use Rattle.desk_draft.proofs.ScopeLemmas.{static_twice, static_taken}
use Rattle.desk_draft.proofs.scope.declare_static.Goals as goal

pub returns-in_err-declare : goal.returns-in_err-declare
returns-in_err-declare c = λ l h.
    let p = err_from_is_err_and c.from_residual-in_err-declare.result c.from_residual-in_err-declare.ensures.1 in
    let none : is_none c.args.scope.now.data_bytes ≡ true = search rules in
    rw (p.1, p.2) (static_twice (scope_of c.args.scope.now l) c.args.name.now c.args.size.now (option_map (λ t. t.now) c.args.hex) c.in_ok-size.size c.in_err-declare.field-0.0 none c.in_ok-check_name.ensures c.in_ok-size.ensures.value (c.in_err-declare.ensures l h))

pub returns : goal.returns
returns c = λ l h.
    let given = c.in_ok-declare.ensures l h in
    let none : is_none c.args.scope.now.data_bytes ≡ true = search rules in
    static_taken c.args.scope.now (record { names = c.declare.new.names; fixed = c.args.scope.now.fixed + c.in_ok-size.size; session = c.args.scope.now.session; data_bytes = c.args.scope.now.data_bytes }) l c.args.name.now c.args.size.now (option_map (λ t. t.now) c.args.hex) c.in_ok-size.size none c.in_ok-check_name.ensures c.in_ok-size.ensures.value (given.0, subst (λ (m : NameMeaning). AreNames c.declare.new.names ((c.args.name.now, m) ∷ l)) c.bytes_at-meaning.ensures given.1) refl refl refl
