use Rattle.mc_script.proofs.FormatLemmas.{format_before_power, format_after_power}
use Rattle.mc_script.proofs.player.Player.format.Goals as goal

pub returns-in-BeforePower-clause-done : goal.returns-in-BeforePower-clause-done
returns-in-BeforePower-clause-done g c =
    format_before_power g.N.Nvm.state g.N.Bench.bench c.args.self.now c.format.new.card c.in-BeforePower.is (record { device = c.format.ensures.state; calls = c.format.ensures.bench })

pub returns-in_default : goal.returns-in_default
returns-in_default g c = record { done = format_after_power g.N.Nvm.state g.N.Bench.bench c.args.self.now c.in_default.not-BeforePower; keeps_device = g.met.N.Nvm.itself _ }
