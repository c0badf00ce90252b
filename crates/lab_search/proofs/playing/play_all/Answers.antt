use Rattle.lab_search.proofs.PlayerLemmas.{deck_playing}
use Rattle.lab_search.proofs.BeginLemmas.{deck_done}
use Rattle.lab_search.proofs.playing.play_all.Goals as goal

pub returns-clause-playing : goal.returns-clause-playing
returns-clause-playing g c =
    deck_playing g.N.Nvm.state g.N.Bench.bench c.args.player.now c.deck.new.self c.args.deck.now c.deck.ensures.done c.requires.playing

pub returns-clause-at : goal.returns-clause-at
returns-clause-at g c =
    λ s at steady. (deck_done g.N.Nvm.state g.N.Bench.bench c.args.player.now c.deck.new.self s c.args.deck.now at steady (c.deck.ensures.done s at)).at

pub returns-clause-steady : goal.returns-clause-steady
returns-clause-steady g c =
    λ s at steady. (deck_done g.N.Nvm.state g.N.Bench.bench c.args.player.now c.deck.new.self s c.args.deck.now at steady (c.deck.ensures.done s at)).steady
