-- Whether a cut hit a line, by what it answered.
use Rattle.std.specs.Prelude.{Bool, true, false, Option, Some}
use Rattle.model_play.specs.Play.{LineResult, OffAt}
use Rattle.mc_script.specs.declared.answer.Answer.{Answer}
use Rattle.mc_script.specs.declared.answer.Answer.TheVariants as answer

-- whether a result is that of a line at which power was cut
abbrev pub is_off : Option LineResult → Bool
is_off (Some (OffAt k)) = true
is_off r = false

-- whether an answer is
abbrev pub off_in : Option Answer → Bool
off_in (Some (answer.OffAt k)) = true
off_in a = false
