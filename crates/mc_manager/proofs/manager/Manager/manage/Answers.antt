use Rattle.mc_apdu.specs.Command.{parts_of}
use Rattle.mc_manager.specs.ManagerState.{view_of}
use Rattle.mc_manager.specs.Ruled.{ruling_or_stop}
use Rattle.mc_manager.proofs.EndsLemmas.{ends_managed}
use Rattle.mc_manager.proofs.manager.Manager.manage.Goals as goal

pub returns-in-36-clause-ends : goal.returns-in-36-clause-ends
returns-in-36-clause-ends g c =
    let v = view_of g.B.Bank c.args.bank.now in
    let w = view_of g.B.Bank c.load_part.new.bank in
    ends_managed g.B.Bank.did 36 v c.args.self.now (parts_of c.args.apdu.now) c.args.bank.now (ruling_or_stop c.load_part.result c.load_part.new.reply) w c.load_part.new.self c.load_part.new.bank c.in-36.is c.load_part.ensures

pub returns-in-38-clause-ends : goal.returns-in-38-clause-ends
returns-in-38-clause-ends g c =
    let v = view_of g.B.Bank c.args.bank.now in
    let w = view_of g.B.Bank c.load_part-in-38.new.bank in
    ends_managed g.B.Bank.did 38 v c.args.self.now (parts_of c.args.apdu.now) c.args.bank.now (ruling_or_stop c.load_part-in-38.result c.load_part-in-38.new.reply) w c.load_part-in-38.new.self c.load_part-in-38.new.bank c.in-38.is c.load_part-in-38.ensures

pub returns-in-32-clause-ends : goal.returns-in-32-clause-ends
returns-in-32-clause-ends g c =
    let v = view_of g.B.Bank c.args.bank.now in
    let w = view_of g.B.Bank c.load_part-in-32.new.bank in
    ends_managed g.B.Bank.did 32 v c.args.self.now (parts_of c.args.apdu.now) c.args.bank.now (ruling_or_stop c.load_part-in-32.result c.load_part-in-32.new.reply) w c.load_part-in-32.new.self c.load_part-in-32.new.bank c.in-32.is c.load_part-in-32.ensures

pub returns-in-34-clause-ends : goal.returns-in-34-clause-ends
returns-in-34-clause-ends g c =
    let v = view_of g.B.Bank c.args.bank.now in
    let w = view_of g.B.Bank c.load_part-in-34.new.bank in
    ends_managed g.B.Bank.did 34 v c.args.self.now (parts_of c.args.apdu.now) c.args.bank.now (ruling_or_stop c.load_part-in-34.result c.load_part-in-34.new.reply) w c.load_part-in-34.new.self c.load_part-in-34.new.bank c.in-34.is c.load_part-in-34.ensures

pub returns-in-22-clause-ends : goal.returns-in-22-clause-ends
returns-in-22-clause-ends g c =
    let v = view_of g.B.Bank c.args.bank.now in
    let w = view_of g.B.Bank c.create.new.bank in
    ends_managed g.B.Bank.did 22 v c.args.self.now (parts_of c.args.apdu.now) c.args.bank.now (ruling_or_stop c.create.result c.create.new.reply) w c.create.new.self c.create.new.bank c.in-22.is c.create.ensures
