use Rattle.std.proofs.Common.{List, ℕ, false, ap, ◌∙◌}
use Rattle.desk_steps.specs.Json.{any_run, runs_more}
use Rattle.law_steps.specs.Runs.{changes}
use Rattle.desk_steps.specs.Sheets.{adds_as}
use Rattle.desk_steps.specs.Shots.{statics}
use Rattle.desk_steps.proofs.changes.add_static.Goals as goal

pub returns-clause-adds : goal.returns-clause-adds
returns-clause-adds g c = adds_as g.T.Sink _ _ _ _ (ap (λ (o : List ℕ). runs_more false (changes 0 o c.statics-2.result.now)) c.statics.ensures.value ∙ ap (λ (t : List ℕ). runs_more false (changes 0 (statics c.args.old.now) t)) c.statics-2.ensures.value) c.add_runs.ensures.adds

pub returns-clause-any : goal.returns-clause-any
returns-clause-any g c = c.add_runs.ensures.any ∙ ap (λ (o : List ℕ). any_run false (changes 0 o c.statics-2.result.now)) c.statics.ensures.value ∙ ap (λ (t : List ℕ). any_run false (changes 0 (statics c.args.old.now) t)) c.statics-2.ensures.value
