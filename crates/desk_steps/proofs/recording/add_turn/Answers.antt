use Rattle.desk_steps.specs.Sheets.{adds_on}
use Rattle.desk_steps.proofs.recording.add_turn.Goals as goal

pub returns : goal.returns
returns g c = adds_on g.T.Sink _ _ _ _ _ (adds_on g.T.Sink _ _ _ _ _ c.add_key.ensures (c.add_key-2.ensures)) (c.add_aid.ensures)
