use Rattle.std.proofs.Common.{◌-◌, false, refl}
use Rattle.std.specs.Prelude.{get_or}
use Rattle.mc_machine.specs.Turns.{full_turn}
use Rattle.mc_apdu.specs.model_machine.specs.Chain.{turn_of}
use Rattle.lab_record.proofs.LogLemmas.{turn_recorded}
use Rattle.lab_record.proofs.recorder.Recorder.see_turn.Goals as goal

pub returns : goal.returns
returns c o x agrees is =
    turn_recorded c.args.self.now c.see_if.new.self c.open.new.self c.count.new.self (full_turn c.args.turn.now o) c.args.own (get_or c.args.self.now.opens (c.args.turn.now.depth - 1) false) x refl c.see_if.ensures.rules c.see_if.ensures.aid c.see_if.ensures.opens c.see_if.ensures.had
    (c.see_if.ensures.log o (turn_of x.left x.chain).turn x.chain.public agrees is.is is.public) c.open.ensures.rules c.open.ensures.aid c.open.ensures.is_short c.open.ensures.log c.open.ensures.opens c.count.ensures.stays c.count.ensures.log is
