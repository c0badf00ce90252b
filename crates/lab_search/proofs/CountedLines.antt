-- Lines that were played by a counter, or without one.
use Rattle.std.proofs.Common.{◌≡◌, ℕ, List, Bool, false, Option, sym}
use Rattle.law_explore_text.specs.model_device.specs.Device.{DeviceState, BenchState}
use Rattle.law_explore_text.specs.model_machine.specs.Chain.{Turn}
use Rattle.law_explore_text.specs.model_play.specs.DeckGrammar.{DeckLine}
use Rattle.law_explore_text.specs.model_play.specs.Play.{step}
use Rattle.law_explore_text.specs.model_play.specs.TraceText.{shown_turns}
use Rattle.mc_script.specs.declared.answer.Answer.{Answer}
use Rattle.mc_script.specs.declared.player.Player.{Player}
use Rattle.mc_script.specs.Lines.{LineDone}
use Rattle.mc_script.specs.Players.{IsPlaying}
use Rattle.lab_rules.specs.declared.rules.OnRule.{OnRule}
use Rattle.lab_rules.specs.Occasions.{has_turns}
use Rattle.lab_rules.proofs.CountLemmas.{turns_uncounted}
use Rattle.lab_search.specs.declared.counter.TurnCounter.{TurnCounter}
use Rattle.lab_search.specs.Counters.{AreCounted, CountsTurns}

module _ {N : Type 0} (state : N → DeviceState) (bench : N → BenchState) where
  -- without a line that counts turns the counts stay, whatever was recorded of the turns
  pub uncounted_line : {R : Type 0} (reported : R → List Turn → R → Type 0) (p q : Player N) (l : DeckLine) (before after : R) (a : Option Answer) (ons : List OnRule) (applies : List Bool) (ns : List ℕ)
      → has_turns ons applies ≡ false → LineDone state bench reported p l before after a q → LineDone state bench (AreCounted ons applies) p l ns ns a q
  uncounted_line reported p q l before after a ons applies ns h done =
      λ s n at.
      let d = done s n at in
      let t = step s (n, l) d.0 in
      (d.0, record { stepped = d.1.stepped; reports = sym (turns_uncounted ons applies (shown_turns t.turns t.stop) ns h) })

  -- a counter counted the turns of a line
  pub counted_line : (p q : Player N) (l : DeckLine) (before after : TurnCounter) (a : Option Answer)
      → LineDone state bench CountsTurns p l before after a q → LineDone state bench (AreCounted before.ons.now before.applies.now) p l before.counts.now after.counts.now a q
  counted_line p q l before after a done =
      λ s n at. let d = done s n at in (d.0, record { stepped = d.1.stepped; reports = d.1.reports.counts })

  -- and it has the same counts
  pub same_counts : (p q : Player N) (l : DeckLine) (before after : TurnCounter) (a : Option Answer)
      → LineDone state bench CountsTurns p l before after a q → IsPlaying state bench p → after.counts.ghost_name ≡ before.counts.ghost_name
  same_counts p q l before after a done h = (done h.0 0 h.1).1.reports.same
