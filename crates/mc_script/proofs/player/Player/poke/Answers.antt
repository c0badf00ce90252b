use Rattle.mc_script.proofs.FormatLemmas.{poke_before_power, poke_after_power}
use Rattle.mc_script.proofs.player.Player.poke.Goals as goal

pub returns-in-BeforePower-clause-done : goal.returns-in-BeforePower-clause-done
returns-in-BeforePower-clause-done g c =
    poke_before_power g.N.Nvm.state g.N.Bench.bench c.args.self.now c.poke.new.card c.args.at c.args.fill c.in-BeforePower.is (record { device = c.poke.ensures.state; calls = c.poke.ensures.bench })

pub returns-in_default : goal.returns-in_default
returns-in_default g c = record { done = poke_after_power g.N.Nvm.state g.N.Bench.bench c.args.self.now c.args.at c.args.fill c.in_default.not-BeforePower; keeps_device = g.met.N.Nvm.itself _ }
