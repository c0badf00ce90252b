-- The journal of the definitions that belongs to each layout of the code, and where its values are kept.
use Rattle.std.specs.Prelude.{ℕ, ◌+◌, ◌*◌}
use Rattle.mc_words.specs.model_device.specs.Image as image
use Rattle.mc_gate.specs.declared.layouts.Layout.{Layout}
use Rattle.mc_gate.specs.declared.layouts.Layout.TheVariants.{V1, V2}

-- the journal of a layout
abbrev pub journal_of : Layout → image.Journal
journal_of V1 = image.One
journal_of V2 = image.Two

-- the place of the value of pair i
abbrev pub place_of_value : image.Journal → ℕ → ℕ
place_of_value image.One i = 4 + 2 * i
place_of_value image.Two i = 19 + i
