use Rattle.desk_steps.specs.Sheets.{adds_on}
use Rattle.desk_steps.proofs.keys.add_place.Goals as goal

pub returns : goal.returns
returns g c = adds_on g.T.Sink _ _ _ _ _ (adds_on g.T.Sink _ _ _ _ _ c.add_key.ensures (c.add_source.ensures)) (c.add_ins.ensures)
