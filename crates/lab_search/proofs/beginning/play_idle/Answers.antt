use Rattle.std.proofs.Common.{[], ◌∷◌}
use Rattle.law_explore_text.specs.model_play.specs.DeckGrammar as line
use Rattle.lab_search.proofs.PlayerLemmas.{line_playing}
use Rattle.lab_search.proofs.BeginLemmas.{idled}
use Rattle.lab_search.proofs.beginning.play_idle.Goals as goal

pub returns-clause-playing : goal.returns-clause-playing
returns-clause-playing g c =
    line_playing g.N.Nvm.state g.N.Bench.bench _ c.args.player.now c.line-dropped.new.self (line.Sent (line.Apdu (0 ∷ []))) _ _ c.line-dropped.result c.line-dropped.ensures.done c.requires

pub returns-clause-at : goal.returns-clause-at
returns-clause-at g c =
    λ s at steady. (idled g.N.Nvm.state g.N.Bench.bench _ c.args.player.now c.line-dropped.new.self _ _ c.line-dropped.result s c.line-dropped.ensures.done at steady).at

pub returns-clause-steady : goal.returns-clause-steady
returns-clause-steady g c =
    λ steady.
    let q = c.requires in
    (idled g.N.Nvm.state g.N.Bench.bench _ c.args.player.now c.line-dropped.new.self _ _ c.line-dropped.result q.0 c.line-dropped.ensures.done q.1 steady).steady
