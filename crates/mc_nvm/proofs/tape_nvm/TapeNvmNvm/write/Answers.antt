use Rattle.mc_nvm.specs.Taped.{taped_obeys}
use Rattle.mc_nvm.proofs.tape_nvm.TapeNvmNvm.write.Goals as goal

pub returns-clause-rules : goal.returns-clause-rules
returns-clause-rules c = taped_obeys c.args.self.now c.args.at c.args.word c.try_write.result c.try_write.new.self c.requires.power c.try_write.ensures
