use Rattle.desk_steps.specs.Sheets.{adds_on}
use Rattle.desk_steps.proofs.keys.add_registers.Goals as goal

pub returns : goal.returns
returns g c wrote = adds_on g.T.Sink _ _ _ _ _ (adds_on g.T.Sink _ _ _ _ _ (adds_on g.T.Sink _ _ _ _ _ (adds_on g.T.Sink _ _ _ _ _ (adds_on g.T.Sink _ _ _ _ _ c.add_key.ensures (c.add_key-2.ensures)) (c.add_flag.ensures)) (c.add_flag-2.ensures)) (c.add_open.ensures)) (c.add_abend.ensures)
