use Rattle.std.proofs.Common.{List, ℕ, ap}
use Rattle.desk_steps.specs.Sheets.{adds_as, adds_on}
use Rattle.desk_steps.specs.Lines.{aid_key}
use Rattle.desk_steps.proofs.keys.add_aid.Goals as goal

pub returns : goal.returns
returns g c =
    adds_as g.T.Sink _ _ _ _ (ap (λ (t : List ℕ). aid_key t) c.bytes.ensures.value) (adds_on g.T.Sink _ _ _ _ _ (adds_on g.T.Sink _ _ _ _ _ c.add.ensures c.add_hex.ensures) c.add-2.ensures)
