use Rattle.mc_script.specs.Players.{IsPlaying}
use Rattle.lab_record.proofs.past.chronicle_on.Given as goal

abbrev pub invariant-loop-i : goal.invariant-loop-i
invariant-loop-i g l = IsPlaying g.N.Nvm.state g.N.Bench.bench l.player
