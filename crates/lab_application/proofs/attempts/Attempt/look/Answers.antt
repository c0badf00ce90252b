use Rattle.lab_application.proofs.SearchLemmas.{kept_with, same_laboratory}
use Rattle.lab_application.proofs.attempts.Attempt.look.Goals as goal

pub returns-clause-same : goal.returns-clause-same
returns-clause-same c = same_laboratory c.args.search.now c.statics_in.new.laboratory c.in_ok-fixed.ensures.root c.in_ok-fixed.ensures.budget c.in_ok-fixed.ensures.counts

pub returns-clause-reached : goal.returns-clause-reached
returns-clause-reached c =
    λ names k. kept_with c.args.search.now (record c.args.search.now { laboratory = c.statics_in.new.laboratory }) names c.args.state (same_laboratory c.args.search.now c.statics_in.new.laboratory c.in_ok-fixed.ensures.root c.in_ok-fixed.ensures.budget c.in_ok-fixed.ensures.counts).keeps k
