use Rattle.mc_script.proofs.SessionLemmas.{put_playing}
use Rattle.mc_script.proofs.player.Player.put_running.Goals as goal

pub returns-in-On-clause-playing : goal.returns-in-On-clause-playing
returns-in-On-clause-playing g c =
    put_playing g.N.Nvm.state g.N.Bench.bench c.args.self.now c.put_saved.new.self c.in-On.is c.put_saved.ensures.device c.put_saved.ensures.ready c.requires.playing
