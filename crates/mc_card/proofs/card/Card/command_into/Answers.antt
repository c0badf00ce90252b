-- What the command leaves of the device follows from its items.
use Rattle.std.proofs.Common.{Ok, Err}
use Rattle.std.proofs.lemmas.Result.{err_from_is_err_and}
use Rattle.mc_machine.specs.Turns.{run_outcome}
use Rattle.mc_card.specs.Parts.{due}
use Rattle.mc_card.proofs.DeviceLemmas.{commanded_same, commanded_ended}
use Rattle.mc_card.proofs.card.Card.command_into.Goals as goal

pub returns-in_err-perform_in-clause-ended : goal.returns-in_err-perform_in-clause-ended
returns-in_err-perform_in-clause-ended g c =
    let p = err_from_is_err_and c.from_residual.result c.from_residual.ensures.1 in
    rw (p.1, p.2) (commanded_ended g.N.Nvm.state g.N.Nvm.wrote g.met.N.Nvm.obeys (due g.N.Nvm.state c.args.self.now c.args.bytes.now c.args.budget) c.args.self.now c.perform_in.new.self (Err c.in_err-perform_in.field-0.0) c.requires.ready c.in_err-perform_in.ensures.done)

pub returns-in_err-perform_in-clause-keeps_device : goal.returns-in_err-perform_in-clause-keeps_device
returns-in_err-perform_in-clause-keeps_device g c =
    commanded_same g.N.Nvm.state g.N.Nvm.wrote g.N.Nvm.same g.met.N.Nvm.keeps g.met.N.Nvm.itself g.met.N.Nvm.onward (due g.N.Nvm.state c.args.self.now c.args.bytes.now c.args.budget) c.args.self.now c.perform_in.new.self (run_outcome c.perform_in.result c.perform_in.new.into) c.perform_in.ensures.done

pub returns-in-Reply-clause-ended : goal.returns-in-Reply-clause-ended
returns-in-Reply-clause-ended g c =
    commanded_ended g.N.Nvm.state g.N.Nvm.wrote g.met.N.Nvm.obeys (due g.N.Nvm.state c.args.self.now c.args.bytes.now c.args.budget) c.args.self.now c.perform_in.new.self (run_outcome (Ok c.in_ok-perform_in.field-0) c.perform_in.new.into) c.requires.ready c.in_ok-perform_in.ensures.done

pub returns-in-Reply-clause-keeps_device : goal.returns-in-Reply-clause-keeps_device
returns-in-Reply-clause-keeps_device g c =
    commanded_same g.N.Nvm.state g.N.Nvm.wrote g.N.Nvm.same g.met.N.Nvm.keeps g.met.N.Nvm.itself g.met.N.Nvm.onward (due g.N.Nvm.state c.args.self.now c.args.bytes.now c.args.budget) c.args.self.now c.perform_in.new.self (run_outcome c.perform_in.result c.perform_in.new.into) c.perform_in.ensures.done

pub returns-in-Abend-clause-ended : goal.returns-in-Abend-clause-ended
returns-in-Abend-clause-ended g c =
    commanded_ended g.N.Nvm.state g.N.Nvm.wrote g.met.N.Nvm.obeys (due g.N.Nvm.state c.args.self.now c.args.bytes.now c.args.budget) c.args.self.now c.perform_in.new.self (run_outcome (Ok c.in_ok-perform_in.field-0) c.perform_in.new.into) c.requires.ready c.in_ok-perform_in.ensures.done

pub returns-in-Abend-clause-keeps_device : goal.returns-in-Abend-clause-keeps_device
returns-in-Abend-clause-keeps_device g c =
    commanded_same g.N.Nvm.state g.N.Nvm.wrote g.N.Nvm.same g.met.N.Nvm.keeps g.met.N.Nvm.itself g.met.N.Nvm.onward (due g.N.Nvm.state c.args.self.now c.args.bytes.now c.args.budget) c.args.self.now c.perform_in.new.self (run_outcome c.perform_in.result c.perform_in.new.into) c.perform_in.ensures.done
