use Rattle.mc_script.proofs.LoggedLemmas.{keeps_untold}
use Rattle.mc_script.proofs.writer.Writer.report_turn.Goals as goal

pub returns-in-Results : goal.returns-in-Results
returns-in-Results g c outcome wrote = keeps_untold g.T.Sink c.args.self.now _ c.in-Results.is
