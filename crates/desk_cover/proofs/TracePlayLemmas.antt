-- The text of a line that a tracer wrote.
use Rattle.std.proofs.Common.{◌≡◌, ℕ, List, ◌++◌, Option, Some, None, refl, subst}
use Rattle.std.specs.Prelude.{option_map}
use Rattle.mc_words.specs.model_device.specs.Device.{DeviceState, BenchState}
use Rattle.mc_deck.specs.model_play.specs.DeckGrammar.{DeckLine}
use Rattle.mc_deck.specs.model_play.specs.Play.{FailedWrite, State, step}
use Rattle.mc_deck.specs.model_play.specs.Transcript.{line_text}
use Rattle.mc_streams.specs.declared.refusals.WriteFault.{WriteFault}
use Rattle.mc_streams.specs.declared.sink.Sink.{Ghosts}
use Rattle.mc_text.specs.Texts.{sunk, Puts, Sunk}
use Rattle.desk_draft.specs.FullTurns.{FullTurn, turns_of_step}
use Rattle.desk_draft.specs.Listings.{Source}
use Rattle.desk_draft.specs.Traces.{trace_lines, trace_text}
use Rattle.mc_script.specs.declared.answer.Answer.{Answer}
use Rattle.mc_script.specs.declared.player.Player.{Player}
use Rattle.mc_script.specs.Players.{answer_value, IsPlayerAt}
use Rattle.mc_script.specs.Lines.{Lined}
use Rattle.mc_script.specs.Runs.{sent_by}
use Rattle.mc_script.specs.Watching.{Watches}
use Rattle.mc_script.specs.Writers.{write_result}
use Rattle.mc_script.proofs.DeckLemmas.{result_text}
use Rattle.desk_cover.specs.declared.tracing.Tracer.{Tracer}
use Rattle.desk_cover.specs.Tracing.{Adds, TextAs, TextBy, Traced, adds_on, log_of}
use Rattle.desk_cover.specs.Watching.{full_turn_of}
use Rattle.desk_cover.proofs.SentLemmas.{sent_shown}

-- a text in a log that had no fault, by the result of its writer
text_put : (f : Option WriteFault) (a : Sunk) (text : List ℕ) (b : Sunk) → TextAs f a text b → Puts a text (write_result f) b
text_put None a text b h = h
text_put (Some f) a text b h = h

module _ {T : Type 0} (sink : Ghosts T) where
  put_by : (q r : Tracer T) (text : List ℕ) (f : Option WriteFault) → q.fault ≡ f → f ≡ None → TextBy f (sunk sink q.out.now) text (log_of sink r) → Puts (sunk sink q.out.now) text (write_result r.fault) (sunk sink r.out.now)
  put_by q r text None is none h = text_put r.fault (sunk sink q.out.now) text (sunk sink r.out.now) h
  put_by q r text (Some g) is none h = absurd (cc none)

  -- a text that a tracer without a fault wrote
  tracer_put : (q r : Tracer T) (text : List ℕ) → q.fault ≡ None → Adds sink q text r → Puts (sunk sink q.out.now) text (write_result r.fault) (sunk sink r.out.now)
  tracer_put q r text none h = put_by q r text q.fault refl none h.adds

  module _ {N : Type 0} (state : N → DeviceState) (bench : N → BenchState) where
    -- the text of a line: the lines of its turns, and its result
    pub line_puts : (p e : Player N) (s : State) (l : ℕ × DeckLine) (w : Option FailedWrite) (q r v : Tracer T) (answer : Option Answer) → IsPlayerAt state bench p s → q.fault ≡ None → Lined state bench (Watches full_turn_of (Traced sink) (sent_by state p l.1)) p s l w q r answer e
        → Adds sink r (line_text l.0 (option_map (answer_value state e) answer)) v → Puts (sunk sink q.out.now) (trace_text q.sections.now (step s l w)) (write_result v.fault) (sunk sink v.out.now)
    line_puts p e s l w q r v answer at none lined adds =
        let t = step s l w in
        let ss : List Source = q.sections.now in
        let turns : Traced sink q (turns_of_step t) r = subst (λ (ts : List FullTurn). Traced sink q ts r) (sent_shown state bench p s l w at) lined.reports in
        let is = result_text state bench p e s l w answer lined.stepped in
        let both = adds_on sink q r v (trace_lines ss (turns_of_step t)) (line_text l.0 (option_map (answer_value state e) answer)) turns adds in
        subst (λ (bs : List ℕ). Puts (sunk sink q.out.now) (trace_lines ss (turns_of_step t) ++ bs) (write_result v.fault) (sunk sink v.out.now)) is
        (tracer_put q v (trace_lines ss (turns_of_step t) ++ line_text l.0 (option_map (answer_value state e) answer)) none both)
