-- Each clause of a run follows from the contract of its turns.
use Rattle.mc_machine.specs.Chains.{run_of_command}
use Rattle.mc_machine.proofs.RunLemmas.{ran_writes, ran_few, ran_outcome, ran_session, ran_ticks, ran_most, ran_going, ran_unchanged}
use Rattle.mc_machine.proofs.running.run_into.Goals as goal

pub returns-clause-writes : goal.returns-clause-writes
returns-clause-writes g c =
    let whole = run_of_command (g.B.Bank.state c.args.bank.now) (g.B.Bank.named c.args.bank.now) c.args.first c.args.session.now c.args.apdu.now c.args.budget in
    ran_writes g.B.Bank c.args.bank.now c.run_turns.new.bank c.args.session.now c.run_turns.new.session c.args.steps.now c.run_turns.new.steps whole c.run_turns.new.reply c.run_turns.result c.run_turns.ensures

pub returns-clause-few : goal.returns-clause-few
returns-clause-few g c =
    let whole = run_of_command (g.B.Bank.state c.args.bank.now) (g.B.Bank.named c.args.bank.now) c.args.first c.args.session.now c.args.apdu.now c.args.budget in
    ran_few g.B.Bank c.args.bank.now c.run_turns.new.bank c.args.session.now c.run_turns.new.session c.args.steps.now c.run_turns.new.steps whole c.run_turns.new.reply c.run_turns.result c.run_turns.ensures

pub returns-clause-outcome : goal.returns-clause-outcome
returns-clause-outcome g c =
    let whole = run_of_command (g.B.Bank.state c.args.bank.now) (g.B.Bank.named c.args.bank.now) c.args.first c.args.session.now c.args.apdu.now c.args.budget in
    ran_outcome g.B.Bank c.args.bank.now c.run_turns.new.bank c.args.session.now c.run_turns.new.session c.args.steps.now c.run_turns.new.steps whole c.run_turns.new.reply c.run_turns.result c.run_turns.ensures

pub returns-clause-session : goal.returns-clause-session
returns-clause-session g c =
    let whole = run_of_command (g.B.Bank.state c.args.bank.now) (g.B.Bank.named c.args.bank.now) c.args.first c.args.session.now c.args.apdu.now c.args.budget in
    ran_session g.B.Bank c.args.bank.now c.run_turns.new.bank c.args.session.now c.run_turns.new.session c.args.steps.now c.run_turns.new.steps whole c.run_turns.new.reply c.run_turns.result c.run_turns.ensures

pub returns-clause-ticks : goal.returns-clause-ticks
returns-clause-ticks g c =
    let whole = run_of_command (g.B.Bank.state c.args.bank.now) (g.B.Bank.named c.args.bank.now) c.args.first c.args.session.now c.args.apdu.now c.args.budget in
    ran_ticks g.B.Bank c.args.bank.now c.run_turns.new.bank c.args.session.now c.run_turns.new.session c.args.steps.now c.run_turns.new.steps whole c.run_turns.new.reply c.run_turns.result c.run_turns.ensures

pub returns-clause-most : goal.returns-clause-most
returns-clause-most g c =
    let whole = run_of_command (g.B.Bank.state c.args.bank.now) (g.B.Bank.named c.args.bank.now) c.args.first c.args.session.now c.args.apdu.now c.args.budget in
    ran_most g.B.Bank c.args.bank.now c.run_turns.new.bank c.args.session.now c.run_turns.new.session c.args.steps.now c.run_turns.new.steps whole c.run_turns.new.reply c.run_turns.result c.run_turns.ensures

pub returns-clause-going : goal.returns-clause-going
returns-clause-going g c =
    let whole = run_of_command (g.B.Bank.state c.args.bank.now) (g.B.Bank.named c.args.bank.now) c.args.first c.args.session.now c.args.apdu.now c.args.budget in
    ran_going g.B.Bank c.args.bank.now c.run_turns.new.bank c.args.session.now c.run_turns.new.session c.args.steps.now c.run_turns.new.steps whole c.run_turns.new.reply c.run_turns.result c.run_turns.ensures

pub returns-clause-unchanged : goal.returns-clause-unchanged
returns-clause-unchanged g c =
    let whole = run_of_command (g.B.Bank.state c.args.bank.now) (g.B.Bank.named c.args.bank.now) c.args.first c.args.session.now c.args.apdu.now c.args.budget in
    ran_unchanged g.B.Bank c.args.bank.now c.run_turns.new.bank c.args.session.now c.run_turns.new.session c.args.steps.now c.run_turns.new.steps whole c.run_turns.new.reply c.run_turns.result c.run_turns.ensures
