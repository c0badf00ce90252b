use Rattle.desk_steps.specs.Sheets.{adds_on}
use Rattle.desk_steps.proofs.keys.add_writes.Goals as goal

pub returns : goal.returns
returns g c = adds_on g.T.Sink _ _ _ _ _ (adds_on g.T.Sink _ _ _ _ _ c.add.ensures (c.add_range.ensures)) (c.add-2.ensures)
