use Rattle.std.proofs.Common.{ℕ, List, None, subst}
use Rattle.law_explore_text.specs.model_play.specs.DeckGrammar as line
use Rattle.lab_search.specs.Playing.{PlaysAs}
use Rattle.lab_search.proofs.TryLemmas.{cut_silent}
use Rattle.lab_search.proofs.making.arm_cut.Goals as goal

pub returns-clause-plays : goal.returns-clause-plays
returns-clause-plays g c =
    let state = g.N.Nvm.state in
    let bench = g.N.Bench.bench in
    subst (λ (x : List ℕ). PlaysAs state bench c.args.player.now (line.Cut c.args.k x) None c.play-armed.new.player) c.word.ensures
    (cut_silent state bench c.args.player.now c.play-armed.new.player c.args.k c.word.result c.play-armed.result c.play-armed.ensures.plays)
