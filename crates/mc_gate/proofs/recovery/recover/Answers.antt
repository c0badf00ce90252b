use Rattle.std.proofs.Common.{refl, sym}
use Rattle.mc_words.specs.model_device.specs.Image.{look_j}
use Rattle.mc_words.specs.model_device.specs.Stopped.{owed_writes, outcome_answer}
use Rattle.mc_words.specs.model_device.proofs.CallLemmas.{recover_ends}
use Rattle.mc_words.specs.model_device.proofs.LoopLemmas.{makes_same}
use Rattle.mc_gate.specs.Layouts.{journal_of}
use Rattle.mc_gate.specs.Recovery.{outcome_of}
use Rattle.mc_gate.proofs.recovery.recover.Goals as goal

pub returns-clause-ends : goal.returns-clause-ends
returns-clause-ends g c =
    let j = journal_of c.LAYOUT.result in
    rw (sym c.LAYOUT.ensures) (recover_ends g.N.Nvm.state g.N.Nvm.wrote g.met.N.Nvm.obeys j (look_j j (g.N.Nvm.state c.args.device.now).words) c.args.device.now c.make_replay.new.device (outcome_of c.make_replay.result)
    c.make_replay.ensures.low c.requires.power refl c.make_replay.ensures.follows c.make_replay.ensures.makes)

pub returns-clause-keeps_device : goal.returns-clause-keeps_device
returns-clause-keeps_device g c =
    let j = journal_of c.LAYOUT.result in
    makes_same g.N.Nvm.wrote g.N.Nvm.same g.met.N.Nvm.keeps g.met.N.Nvm.itself g.met.N.Nvm.onward (owed_writes (look_j j (g.N.Nvm.state c.args.device.now).words)) c.args.device.now c.make_replay.new.device
    (outcome_answer (outcome_of c.make_replay.result)) c.make_replay.ensures.makes
