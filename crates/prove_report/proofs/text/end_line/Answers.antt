use Rattle.prove_report.proofs.ReportLemmas.{ended_on_ok}
use Rattle.prove_report.proofs.text.end_line.Goals as goal

pub returns : goal.returns
returns c = ended_on_ok c.add.result c.args.text.now.items c.add.new.text.items c.add.ensures
