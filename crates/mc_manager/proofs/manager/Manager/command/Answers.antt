use Rattle.std.proofs.lemmas.Result.{err_from_is_err_and}
use Rattle.mc_manager.proofs.manager.Manager.command.Goals as goal

pub returns-in_err-rule-clause-apps : goal.returns-in_err-rule-clause-apps
returns-in_err-rule-clause-apps g c =
    let p = err_from_is_err_and c.from_residual.result c.from_residual.ensures.1 in
    rw (p.1, p.2) c.in_err-rule.ensures.apps
