use Rattle.std.proofs.Common.{[], ◌∷◌, ◌++◌, ℕ, ap, codes}
use Rattle.mc_text.specs.model_text.specs.Listing.{hex_text}
use Rattle.desk_steps.specs.Sheets.{adds_as, adds_on}
use Rattle.desk_steps.proofs.keys.add_cause.Goals as goal

pub returns : goal.returns
returns g c =
    adds_as g.T.Sink _ _ _ _ (ap (λ (n : ℕ). codes ",\"abend\":\"" ++ hex_text (n ∷ []) ++ codes "\"") c.code.ensures)
    (adds_on g.T.Sink _ _ _ _ _ (adds_on g.T.Sink _ _ _ _ _ c.add.ensures c.add_hex.ensures) c.add-2.ensures)
