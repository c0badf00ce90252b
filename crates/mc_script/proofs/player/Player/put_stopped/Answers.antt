use Rattle.mc_script.specs.declared.player.Power.TheVariants as power
use Rattle.mc_script.proofs.LiveLemmas.{stopped_playing}
use Rattle.mc_script.proofs.player.Player.put_stopped.Goals as goal

pub returns-in-Off-clause-playing : goal.returns-in-Off-clause-playing
returns-in-Off-clause-playing g c = stopped_playing g.N.Nvm.state g.N.Bench.bench c.args.self.now power.Off c.args.power c.in-Off.is tt c.requires.stopped c.requires.playing

pub returns-in-Mute-clause-playing : goal.returns-in-Mute-clause-playing
returns-in-Mute-clause-playing g c = stopped_playing g.N.Nvm.state g.N.Bench.bench c.args.self.now power.Mute c.args.power c.in-Mute.is tt c.requires.stopped c.requires.playing
