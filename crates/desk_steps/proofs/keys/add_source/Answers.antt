use Rattle.std.proofs.Common.{Option, ℕ, ap, sym}
use Rattle.desk_steps.specs.Sheets.{adds_as}
use Rattle.desk_steps.specs.Lines.{source_key}
use Rattle.desk_steps.proofs.keys.add_source.Goals as goal

pub returns-in-None : goal.returns-in-None
returns-in-None g c = adds_as g.T.Sink _ _ _ _ (ap (λ (o : Option ℕ). source_key o) (sym c.in-None.is)) c.add.ensures
