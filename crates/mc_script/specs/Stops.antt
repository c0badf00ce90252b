-- Whether a player's next card line meets a stop.
use Rattle.std.specs.Prelude.{Bool, true, false}
use Rattle.mc_script.specs.declared.armed.Armed.{Armed}
use Rattle.mc_script.specs.declared.armed.Armed.TheVariants as armed

-- whether a stop is armed
abbrev pub has_stop : Armed → Bool
has_stop armed.Not = false
has_stop (armed.Cut k fill) = true
has_stop (armed.Fail k) = true
