-- A card after a turn is up, and the turn that a recorder saw.
use Rattle.std.proofs.Common.{◌≡◌, ℕ, zero, suc, List, [], Option, Some, None, refl, Result, Ok, Err, ap, sym, subst, ◌∙◌}
use Rattle.std.specs.Prelude.{option_map, IsSome}
use Rattle.mc_words.specs.model_device.specs.declared.device.Stop.{Stop}
use Rattle.mc_words.specs.model_device.specs.Orders.{Answer}
use Rattle.mc_words.specs.model_device.specs.Bytes.{lookup}
use Rattle.mc_words.specs.model_device.specs.Card as model
use Rattle.mc_words.specs.model_device.specs.Card.{App}
use Rattle.mc_words.specs.model_device.specs.Device.{DeviceState}
use Rattle.mc_text.specs.model_machine.specs.Chain.{Chain, Continues, Ends, Follows, Outcome as ModelOutcome, Turn as ModelTurn, Write, turn_of, turn_of_chain}
use Rattle.mc_bank.specs.model_card.specs.Items.{write_items}
use Rattle.law_steps.specs.Shown.{EndsFrame}
use Rattle.law_steps.proofs.AfterTurns.{ended_writes}
use Rattle.mc_bank.specs.Bank.{app_of, name_or}
use Rattle.mc_segs.specs.HeldFrames.{Seen}
use Rattle.mc_machine.specs.declared.outcome.Turn.{Turn}
use Rattle.mc_machine.specs.declared.outcome.End.{End}
use Rattle.mc_machine.specs.declared.outcome.End.TheVariants as end
use Rattle.mc_machine.specs.declared.outcome.BriefTurn.{BriefTurn}
use Rattle.mc_machine.specs.declared.outcome.Outcome.{Outcome}
use Rattle.mc_machine.specs.declared.outcome.Outcome.TheVariants as outcome
use Rattle.mc_machine.specs.Turns.{end_outcome, full_turn, outcome_value, turn_value, AgreesWithEnd}
use Rattle.mc_card.specs.declared.card.Card.{Card}
use Rattle.mc_card.specs.Parts.{IsRunning, IsUp, RunsChain, card_in, device_in, view_in, words_in}
use Rattle.mc_card.proofs.StaticLemmas.{going_apps}
use Rattle.mc_card.specs.ItemWrites.{IsCardAfter}
use Rattle.mc_card.proofs.MadeLemmas.{card_found}
use Rattle.mc_card.specs.Ends.{ChainTurned, TurnGoesOn}
use Rattle.mc_streams.specs.declared.sink.Sink.{Ghosts}
use Rattle.desk_draft.specs.FullTurns.{FullTurn}
use Rattle.desk_draft.specs.Listings.{CodeLine, Source}
use Rattle.desk_draft.specs.Traces.{line_of_turn, section_of_turn}
use Rattle.desk_draft.specs.Verdicts.{source_line}
use Rattle.mc_script.specs.Watching.{IsWide, WatchesTurn}
use Rattle.mc_script.proofs.WideLemmas.{next_wide}
use Rattle.desk_cover.specs.Looking.{Shows, section_at}
use Rattle.desk_cover.specs.Watching.{name_in}
use Rattle.desk_cover.proofs.FullTurnLemmas.{chained_name}
use Rattle.desk_cover.proofs.TraceLemmas.{IsTurnOf}
use Rattle.desk_steps.specs.declared.recording.Recorder.{Recorder}
use Rattle.desk_steps.specs.Moments.{moment}
use Rattle.desk_steps.specs.Turning.{IsWideNext, KeepsStatics, WasTurn, abend_alone, bare_turn, bare_value, end_of}
use Rattle.desk_steps.specs.Recorded.{recorded_stopped, IsQuiet, Recorded, WaitsFirst}

module _ {N : Type 0} (state : N → DeviceState) (wrote : N → ℕ → List ℕ → Answer → N → Type 0) where
  goes_up : (c d : Card N) (ch : Chain) (left : ℕ) (f : Follows) → TurnGoesOn state wrote c ch left f d → IsUp state d
  goes_up c d ch left (Continues next) h = (h.0).up
  goes_up c d ch left (Ends o) h = (h.0).up

  -- a card is up after a turn
  pub turned_up : (c d : Card N) (turn : Turn) → IsRunning state c → ((ch : Chain) (left : ℕ) → RunsChain state c ch left → ChainTurned state wrote c ch left (turn_of left ch) (Ok turn) d) → IsUp state d
  turned_up c d turn r h =
      let t = turn_of r.1 r.0 in
      goes_up c d r.0 _ t.follows (h r.0 r.1 r.2).follows

-- the number of the source line of a turn
pub source_found : (turn : Turn) (ss : List Source) (o : Option ℕ) (t : FullTurn) (n : Option ℕ) → IsTurnOf turn ss o t → n ≡ option_map (λ (l : CodeLine). l.number) (source_line (section_at ss o) turn.at) → n ≡ option_map (λ (l : CodeLine). l.number) (line_of_turn ss t)
source_found turn ss o t n h e =
    e ∙ ap (λ (s : Option Source). option_map (λ (l : CodeLine). l.number) (source_line s turn.at)) h.section ∙ ap (λ (u : ModelTurn). option_map (λ (l : CodeLine). l.number) (source_line (section_of_turn ss t) u.at)) (sym h.same)

module _ {T : Type 0} (sink : Ghosts T) where
  -- a turn whose write stopped is not recorded
  pub watches_stopped : (n : ℕ) (ch : Chain) (result : Result Turn Stop) (stop : Stop) (q p : Recorder T) → result ≡ Err stop → IsQuiet q p → WaitsFirst p → WatchesTurn moment (Recorded sink) n ch result q p
  watches_stopped n ch result stop q p is h waits = subst (λ (r : Result Turn Stop). WatchesTurn moment (Recorded sink) n ch r q p) (sym is) (recorded_stopped sink q p h waits)

-- ---- the card after a turn

module _ {N : Type 0} (state : N → DeviceState) (wrote : N → ℕ → List ℕ → Answer → N → Type 0) where
  shown_after : (c d : Card N) (ch : Chain) (left : ℕ) (f : Follows) → TurnGoesOn state wrote c ch left f d → Shows state d f
  shown_after c d ch left (Continues next) h = (left, h.0)
  shown_after c d ch left (Ends o) h = (h.0).idle

  wide_after : (n : ℕ) (ch : Chain) → IsWide ch → IsWideNext (turn_of n ch).follows
  wide_after zero ch w = tt
  wide_after (suc n) ch w = by (turn_of_chain ch).follows refl
    where
      by : (f : Follows) → (turn_of_chain ch).follows ≡ f → IsWideNext f
      by (Ends o) e = tt
      by (Continues c) e = (next_wide ch c e w).frames.0

  name_there : (o : Option (List ℕ)) (n : List ℕ) → IsSome o → name_or o ≡ n → o ≡ Some n
  name_there None n there e = absurd (cc there)
  name_there (Some m) n there e = ap Some e

  -- a turn that ends its frame writes nothing, so the card keeps the static bytes that the frame has
  kept_after : (c d : Card N) (ch : Chain) (left : ℕ) (turn : Turn) → RunsChain state c ch left → ChainTurned state wrote c ch left (turn_of left ch) (Ok turn) d → EndsFrame (turn_of left ch).turn → KeepsStatics state d ch.frame
  kept_after c d ch left turn runs h ends =
      let done : IsCardAfter (card_in state c) (write_items []) (Ok tt) (words_in state d) = subst (λ (ws : List Write). IsCardAfter (card_in state c) (write_items ws) (Ok tt) (words_in state d)) (ended_writes left ch ends) h.made.done in
      let same : card_in state c ≡ card_in state d = card_found (card_in state c) 0 (words_in state d) done in
      let name : name_in state c runs.chained.running ≡ ch.frame.name = chained_name state c ch left runs in
      let named : (view_in state c).named runs.chained.running.slot ≡ Some ch.frame.name = name_there ((view_in state c).named runs.chained.running.slot) ch.frame.name runs.runs.running.fits.there name in
      let apps : (view_in state c).state.apps ≡ (card_in state c).apps = going_apps (state (device_in c)) _ runs.up.going in
      let app : IsSome (lookup (view_in state c).state.apps ch.frame.name) = subst (λ (n : List ℕ). IsSome (lookup (view_in state c).state.apps n)) name runs.runs.running.fits.app in
      let there : IsSome (lookup (card_in state c).apps ch.frame.name) = subst (λ (m : List (List ℕ × App)). IsSome (lookup m ch.frame.name)) apps app in
      let fixed : (app_of (card_in state c).apps (Some ch.frame.name)).fixed ≡ ch.frame.fixed =
      ap (λ (m : List (List ℕ × App)). (app_of m (Some ch.frame.name)).fixed) (sym apps) ∙ ap (λ (o : Option (List ℕ)). (app_of (view_in state c).state.apps o).fixed) (sym named) ∙ ap (λ (s : Seen). s.fixed) runs.runs.running.same
      in
      record {
        there = subst (λ (k : model.Card). IsSome (lookup k.apps ch.frame.name)) same there;
        fixed = subst (λ (k : model.Card). (app_of k.apps (Some ch.frame.name)).fixed ≡ ch.frame.fixed) same fixed;
      }

  -- the outcome of an end that agrees with it, if it is an abend
  end_alone : (e : Option End) (o : Outcome) → AgreesWithEnd e o → abend_alone (option_map outcome_value (end_outcome e o)) ≡ end_of e
  end_alone None o agrees = refl
  end_alone (Some end.Reply) (outcome.Reply r) agrees = refl
  end_alone (Some end.Reply) (outcome.Abend a) agrees = absurd agrees
  end_alone (Some (end.Abend a)) o agrees = ap (λ (x : Outcome). abend_alone (Some (outcome_value x))) agrees

  turn_alone : (turn : BriefTurn) (o : Outcome) (t : ModelTurn) → AgreesWithEnd turn.end o → t ≡ turn_value (full_turn turn o) t.wrote → bare_turn t ≡ bare_value turn t.wrote
  turn_alone turn o t agrees same = ap bare_turn same ∙ ap (λ (e : Option ModelOutcome). record (bare_value turn t.wrote) { end = e }) (end_alone turn.end o agrees)

  -- a card after a turn of a chain
  pub was_turn : (c d : Card N) (ch : Chain) (left : ℕ) (turn : BriefTurn) (o : Outcome) → RunsChain state c ch left → IsWide ch → AgreesWithEnd turn.end o → ChainTurned state wrote c ch left (turn_of left ch) (Ok (full_turn turn o)) d → WasTurn state d left ch turn
  was_turn c d ch left turn o runs wide agrees h =
      record {
        same = turn_alone turn o (turn_of left ch).turn agrees h.turn;
        shows = shown_after c d ch _ _ h.follows;
        wide = wide_after left ch wide;
        few = runs.runs.few;
        kept = λ ends. kept_after c d ch left (full_turn turn o) runs h ends;
      }
