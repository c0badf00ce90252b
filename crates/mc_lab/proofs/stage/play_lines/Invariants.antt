use Rattle.std.proofs.Common.{List}
use Rattle.law_explore.specs.model_play.specs.Play.{Step}
use Rattle.mc_script.specs.Players.{IsPlaying}
use Rattle.mc_lab.specs.Stages.{Staged}
use Rattle.mc_lab.proofs.stage.play_lines.Given as goal

-- the lines up to here were played, and the text is the result of the last of them
abbrev pub invariant-loop-at : goal.invariant-loop-at
invariant-loop-at g l =
    let state = g.N.Nvm.state in
    let bench = g.N.Bench.bench in
    record {
      staged : (whole : List Step) → Staged state bench whole l.deck l.fn.player l.from l.fn.text.items → Staged state bench whole l.deck l.player l.at l.text.items;
      playing : IsPlaying state bench l.player;
    }
