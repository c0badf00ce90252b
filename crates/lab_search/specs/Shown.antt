-- The play of a card, or of a fault, without writes that recovery still has to make.
use Rattle.std.specs.Prelude.{ℕ}
use Rattle.law_explore_text.specs.model_device.specs.Image.{Two}
use Rattle.law_explore_text.specs.model_device.specs.PowerUp.{Base}
use Rattle.law_explore_text.specs.model_play.specs.Play as play
use Rattle.law_explore_text.specs.model_play.specs.Play.{Unarmed, Warm}

-- the play of a base, of what runs on it and of a budget: no stop is armed, and nothing is owed
abbrev pub settled_play : Base → play.Live → ℕ → Warm
settled_play b l g = record { base = b; owed = 0; by = Two; live = l; budget = g; armed = Unarmed }
