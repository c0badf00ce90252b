-- Whole items before those of a stop.
use Rattle.std.specs.Prelude.{List, ◌++◌}
use Rattle.model_play.specs.model_card.specs.Items.{Item, Stopped}

-- the result of a stop with more whole items before it
abbrev pub with_whole : List Item → Stopped → Stopped
with_whole is s = record s { whole = is ++ s.whole }
