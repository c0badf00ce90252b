use Rattle.std.proofs.Common.{◌++◌, List, ℕ, ap, codes, ◌∙◌}
use Rattle.desk_steps.specs.Sheets.{adds_as, adds_on}
use Rattle.desk_steps.proofs.playing.add_given.Goals as goal

pub returns : goal.returns
returns g c =
    adds_as g.T.Sink _ _ _ _ (ap (λ (t : List ℕ). codes ",\"result\":\"" ++ t ++ codes "\"") (c.as_slice.ensures.value ∙ c.result_of-text.ensures.text))
    (adds_on g.T.Sink _ _ _ _ _ (adds_on g.T.Sink _ _ _ _ _ c.add.ensures c.add-2.ensures) c.add-3.ensures)
