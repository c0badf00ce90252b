-- A player that plays a line goes on playing.
use Rattle.std.specs.Prelude.{List, Option}
use Rattle.mc_words.specs.model_device.specs.Device.{DeviceState, BenchState}
use Rattle.mc_apdu.specs.model_machine.specs.Chain.{Turn}
use Rattle.law_events.specs.law_promise.specs.model_play.specs.DeckGrammar.{DeckLine}
use Rattle.law_events.specs.law_promise.specs.model_play.specs.Play.{step}
use Rattle.mc_script.specs.declared.answer.Answer.{Answer}
use Rattle.mc_script.specs.declared.player.Player.{Player}
use Rattle.mc_script.specs.Players.{IsPlaying}
use Rattle.mc_script.specs.Lines.{LineDone}

module _ {N : Type 0} (state : N → DeviceState) (bench : N → BenchState) where
  pub line_playing : {R : Type 0} (reported : R → List Turn → R → Type 0) (p q : Player N) (l : DeckLine) (before after : R) (a : Option Answer)
      → LineDone state bench reported p l before after a q → IsPlaying state bench p → IsPlaying state bench q
  line_playing reported p q l before after a done h =
      let d = done h.0 0 h.1 in
      ((step h.0 (0, l) d.0).after, d.1.stepped.at)
