use Rattle.mc_card.specs.Ends.{outcome_or_stop}
use Rattle.mc_card.specs.Parts.{card_in, session_state_in}
use Rattle.mc_card.proofs.CommandLemmas.{commanded_into}
use Rattle.mc_script.specs.Writers.{WriterKeeps}
use Rattle.mc_script.proofs.AloneLemmas.{alone_ran}
use Rattle.mc_script.proofs.CommandLemmas.{untold_ran}
use Rattle.mc_script.proofs.StepLemmas.{command_steps}
use Rattle.mc_script.proofs.LoggedLemmas.{keeps_untold}
use Rattle.mc_script.proofs.writer.WriterRunner.run.Goals as goal

pub returns-in-Results-clause-done : goal.returns-in-Results-clause-done
returns-in-Results-clause-done g c =
    let e = c.command_into.ensures in
    untold_ran g.N.Nvm.state g.N.Nvm.wrote _ (outcome_or_stop c.command_into.result c.command_into.new.into) c.args.card.now c.command_into.new.self _ _ _
    (λ ts. keeps_untold g.T.Sink c.args.self.now ts c.in-Results.is)
    (commanded_into g.N.Nvm.state g.N.Nvm.wrote c.args.card.now c.command_into.new.self _ c.command_into.result c.command_into.new.into e.made e.outcome e.session_state e.on)

pub returns-in-Results-clause-steps : goal.returns-in-Results-clause-steps
returns-in-Results-clause-steps g c =
    command_steps (card_in g.N.Nvm.state c.args.card.now) (session_state_in g.N.Nvm.state c.args.card.now) c.args.bytes.now c.args.budget c.args.steps.now c.command_into.new.steps c.command_into.result c.command_into.ensures.steps

pub returns-in-Turns-clause-done : goal.returns-in-Turns-clause-done
returns-in-Turns-clause-done g c =
    alone_ran g.N.Nvm.state g.N.Nvm.wrote (WriterKeeps g.T.Sink) (outcome_or_stop c.run_watched.result c.run_watched.new.into) c.args.card.now c.run_watched.new.card c.args.bytes.now c.args.budget c.args.self.now c.run_watched.new.watcher c.run_watched.ensures.done
