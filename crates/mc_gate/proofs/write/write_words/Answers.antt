use Rattle.mc_words.specs.model_device.specs.Stopped.{writes}
use Rattle.mc_words.specs.model_device.proofs.CallLemmas.{write_ends}
use Rattle.mc_words.specs.model_device.proofs.LoopLemmas.{makes_same}
use Rattle.mc_gate.specs.Layouts.{journal_of}
use Rattle.mc_gate.proofs.write.write_words.Goals as goal

pub returns-clause-ends : goal.returns-clause-ends
returns-clause-ends g c =
    let j = journal_of g.J.Journal.LAYOUT in
    write_ends g.N.Nvm.state g.N.Nvm.wrote g.met.N.Nvm.obeys j c.args.list.now c.args.device.now c.make_writes.new.device c.make_writes.result
    c.make_writes.ensures.low c.make_writes.ensures.high c.requires.power c.requires.list c.requires.gate c.make_writes.ensures.makes

pub returns-clause-keeps_device : goal.returns-clause-keeps_device
returns-clause-keeps_device g c =
    let j = journal_of g.J.Journal.LAYOUT in
    makes_same g.N.Nvm.wrote g.N.Nvm.same g.met.N.Nvm.keeps g.met.N.Nvm.itself g.met.N.Nvm.onward (writes j c.args.list.now) c.args.device.now c.make_writes.new.device c.make_writes.result c.make_writes.ensures.makes
