-- An armed stop that is passed to a bench.
use Rattle.std.specs.Prelude.{Bool, true, false, Option, Some}
use Rattle.model_play.specs.model_device.specs.declared.device.Stop.{Stop}
use Rattle.model_play.specs.model_device.specs.declared.device.Stop.TheVariants.{Off, Worn}
use Rattle.model_play.specs.model_device.specs.Bytes.{zeros}
use Rattle.model_play.specs.model_device.specs.Device.{BenchState, next_count}
use Rattle.model_play.specs.DeckGrammar.{DeckLine}
use Rattle.mc_store.specs.declared.power.Up.{Up}
use Rattle.mc_store.specs.declared.power.Up.TheVariants as up
use Rattle.mc_script.specs.Counting.{on_unstopped}
use Rattle.mc_script.specs.Players.{cut_place}
use Rattle.mc_script.specs.declared.answer.Answer.{Answer}
use Rattle.mc_script.specs.declared.answer.Answer.TheVariants as answer
use Rattle.mc_script.specs.declared.player.Power.{Power}
use Rattle.mc_script.specs.declared.player.Power.TheVariants as power
use Rattle.mc_script.specs.declared.armed.Armed.{Armed}
use Rattle.mc_script.specs.declared.armed.Armed.TheVariants as armed

-- a bench with the fuse of an armed stop; a failed write leaves eight zero bytes
abbrev pub armed_bench : Armed → BenchState → BenchState
armed_bench armed.Not b = b
armed_bench (armed.Cut k fill) b = record b { cut = Some (record { writes = k; fill = fill }); arms = next_count b.arms }
armed_bench (armed.Fail k) b = record b { worn = Some (record { writes = k; fill = zeros 8 }); wears = next_count b.wears }

-- the power after a stop: no card runs, and after a failed write it is mute
abbrev pub power_after_stop : Stop → Power
power_after_stop Off = power.Off
power_after_stop Worn = power.Mute

-- the answer of a line that a stop hit
abbrev pub answer_after_stop : Stop → Armed → Answer
answer_after_stop Off a = answer.OffAt (cut_place a)
answer_after_stop Worn a = answer.Worn

-- whether the device has power after a line, by the line's answer: a cut takes it, a failed write does not, and else a
-- power line turns it on
abbrev pub on_after_answer : Bool → DeckLine → Option Answer → Bool
on_after_answer on l (Some (answer.OffAt k)) = false
on_after_answer on l (Some answer.Worn) = true
on_after_answer on l _ = on_unstopped on l

-- the power after a power line that found no card
abbrev pub power_after_failure : Up → Power
power_after_failure (up.Stop s) = power_after_stop s
power_after_failure (up.Unusable u) = power.Off

-- the answer of a power line that found no card
abbrev pub answer_after_failure : Up → Armed → Answer
answer_after_failure (up.Stop s) a = answer_after_stop s a
answer_after_failure (up.Unusable u) a = answer.Unusable u
