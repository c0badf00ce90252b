use Rattle.std.proofs.Common.{sym, ◌∙◌}
use Rattle.lab_search.proofs.BeginLemmas.{no_stop_there, stop_there}
use Rattle.lab_search.proofs.beginning.drop_stop.Goals as goal

pub returns-then-not-is_armed-clause-armed : goal.returns-then-not-is_armed-clause-armed
returns-then-not-is_armed-clause-armed g c = λ s at. sym c.if-not-is_armed.true ∙ c.is_armed.ensures ∙ stop_there g.N.Nvm.state g.N.Bench.bench c.args.player.now s at

pub returns-then-not-is_armed-clause-at : goal.returns-then-not-is_armed-clause-at
returns-then-not-is_armed-clause-at g c =
    λ s at steady. no_stop_there g.N.Nvm.state g.N.Bench.bench c.args.player.now s at (sym c.is_armed.ensures ∙ c.if-not-is_armed.true)

pub returns-clause-armed : goal.returns-clause-armed
returns-clause-armed g c = λ s at. sym c.if-not-is_armed.false ∙ c.is_armed.ensures ∙ stop_there g.N.Nvm.state g.N.Bench.bench c.args.player.now s at
