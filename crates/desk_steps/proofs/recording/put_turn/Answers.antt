use Rattle.desk_steps.specs.Sheets.{adds_on}
use Rattle.desk_steps.proofs.recording.put_turn.Goals as goal

pub returns-clause-adds : goal.returns-clause-adds
returns-clause-adds g c wrote = adds_on g.T.Sink _ _ _ _ _ (adds_on g.T.Sink _ _ _ _ _ (adds_on g.T.Sink _ _ _ _ _ (adds_on g.T.Sink _ _ _ _ _ (adds_on g.T.Sink _ _ _ _ _ c.add_turn.ensures (c.add_place.ensures)) (c.add_registers.ensures wrote)) (c.add_sets.ensures)) (c.add_writes.ensures)) (c.end_line.ensures.adds)
