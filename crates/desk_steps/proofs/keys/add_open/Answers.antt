use Rattle.std.proofs.Common.{Bool, ap, sym}
use Rattle.desk_steps.specs.Sheets.{adds_as}
use Rattle.desk_steps.specs.Lines.{open_key}
use Rattle.desk_steps.proofs.keys.add_open.Goals as goal

pub returns-then-is_on : goal.returns-then-is_on
returns-then-is_on g c = adds_as g.T.Sink _ _ _ _ (ap (λ (b : Bool). open_key b) (sym c.if-is_on.true)) c.add.ensures

pub returns-else-is_on : goal.returns-else-is_on
returns-else-is_on g c = adds_as g.T.Sink _ _ _ _ (ap (λ (b : Bool). open_key b) (sym c.if-is_on.false)) c.add-else-is_on.ensures
