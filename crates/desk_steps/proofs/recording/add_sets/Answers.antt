use Rattle.desk_steps.specs.Sheets.{adds_on}
use Rattle.desk_steps.proofs.recording.add_sets.Goals as goal

pub returns : goal.returns
returns g c = adds_on g.T.Sink _ _ _ _ _ c.add.ensures (c.add_changes.ensures)
