use Rattle.mc_script.proofs.player.Player.budget.Goals as goal

pub returns-clause-low : goal.returns-clause-low
returns-clause-low g c = c.requires.1.some

pub returns-clause-high : goal.returns-clause-high
returns-clause-high g c = c.requires.1.most
