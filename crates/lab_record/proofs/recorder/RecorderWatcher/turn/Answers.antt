use Rattle.mc_machine.specs.Turns.{full_turn}
use Rattle.lab_record.specs.Logs.{sight}
use Rattle.lab_record.proofs.LogLemmas.{watched_turn}
use Rattle.lab_record.proofs.recorder.RecorderWatcher.turn.Goals as goal

pub returns-clause-watches : goal.returns-clause-watches
returns-clause-watches g c ch left runs wide =
    watched_turn c.args.self.now c.look_at.new.self c.see_turn.new.self c.is_own-own.result c.public_of.result.now (full_turn c.in_ok-turn.turn c.brief_turn.new.into) (sight left ch) c.look_at.ensures (c.is_own-own.ensures ch left runs) (c.public_of.ensures ch left runs)
    (c.in_ok-turn.ensures.done ch left runs).turn (λ x is. c.see_turn.ensures c.brief_turn.new.into x c.in_ok-turn.ensures.agrees is)
