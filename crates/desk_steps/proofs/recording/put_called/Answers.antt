use Rattle.std.proofs.Common.{codes}
use Rattle.desk_steps.specs.Sheets.{adds_as, adds_on}
use Rattle.desk_steps.proofs.ChangeLemmas.{text_without_command}
use Rattle.desk_steps.proofs.recording.put_called.Goals as goal

pub returns-clause-adds : goal.returns-clause-adds
returns-clause-adds g c =
    adds_as g.T.Sink _ _ _ _ (text_without_command c.args.depth c.args.aid.now _ (codes "}\n"))
    (adds_on g.T.Sink _ _ _ _ _ (adds_on g.T.Sink _ _ _ _ _ (adds_on g.T.Sink _ _ _ _ _ c.add_key.ensures c.add_aid.ensures) c.add_first.ensures) c.end_line.ensures.adds)
