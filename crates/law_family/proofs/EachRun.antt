-- What holds of every run that begins well holds of every run of a play.
use Rattle.std.proofs.Common.{arith, ℕ, Bool, true, false, List, [], ◌∷◌, Option, Some, None}
use Rattle.model_play.specs.model_machine.specs.Apdu.{ApduParts}
use Rattle.model_play.specs.model_device.specs.Card.{App, Card}
use Rattle.model_play.specs.model_machine.specs.Chain.{Chain}
use Rattle.model_play.specs.model_card.specs.Items.{card_done}
use Rattle.model_play.specs.model_card.specs.Manager.{Selected, SessionState, Route, route}
use Rattle.model_play.specs.DeckGrammar.{DeckLine}
use Rattle.model_play.specs.Play.{FailedWrite, Live, State, BeforePower, AfterPower, Step, is_done, plays, start}
use Rattle.model_play.specs.model_device.specs.PowerUp.{Base}
use Rattle.model_play.specs.model_card.specs.Commands.{command}
use Rattle.model_play.specs.Laws.{bytes_of}
use Rattle.law_family.specs.Begins.{PassedWell, RoutedWell, BehindDone, SentWell, TakenWell, LineWell, BeginWell, OnPassed, OnRouted, OnSent, OnTaken, OnLine, OnEachRun, HoldsWherever}
use Rattle.law_family.proofs.PlaySizes.{begins_law}

module _ (holds : ℕ → Chain → Type 0) (wherever : HoldsWherever holds) where
  on_passed : (m : List (List ℕ × App)) (budget : ℕ) (o : Option Selected) (a : ApduParts) → PassedWell m o → OnPassed holds m budget o a
  on_passed m budget None a h = tt
  on_passed m budget (Some s) a h = wherever m s.name s.session a budget h.limited h.session

  on_routed : (m : List (List ℕ × App)) (session_state : SessionState) (budget : ℕ) (r : Route) → RoutedWell m session_state r → OnRouted holds m session_state budget r
  on_routed m session_state budget r h = grind (arith, on_passed)

  behind_done : (b : Bool) (before after : Type 0) → (before → after) → BehindDone b before → BehindDone b after
  behind_done true before after f h = f h
  behind_done false before after f h = tt

  on_sent : (c : Card) (session_state : SessionState) (budget : ℕ) (bs : List (List ℕ)) → SentWell c session_state budget bs → OnSent holds c session_state budget bs
  on_sent c session_state budget [] h = tt
  on_sent c session_state budget (b ∷ bs) h =
      let r = command c session_state b budget in
      let d = card_done c r.items in
      (on_routed c.apps session_state budget (route b) h.0, behind_done (is_done r.outcome) (SentWell d r.session_state budget bs) (OnSent holds d r.session_state budget bs) (λ k. on_sent d r.session_state budget bs k) h.1)

  on_taken : (v : Live) (b : Base) (budget : ℕ) (bs : List (List ℕ)) → TakenWell v b budget bs → OnTaken holds v b budget bs
  on_taken v b budget bs h = grind (arith, on_sent)

  on_line : (z : State) (bs : List (List ℕ)) → LineWell z bs → OnLine holds z bs
  on_line (BeforePower m b a) bs h = tt
  on_line (AfterPower s) bs h = on_taken s.live s.base s.budget bs h

  pub on_each : (ts : List Step) → BeginWell ts → OnEachRun holds ts
  on_each [] h = tt
  on_each (t ∷ ts) h = (on_line t.before (bytes_of t.line) h.0, on_each ts h.1)

  -- of every play, and so of the checker's verdict on the runs of accepted code
  pub each_run : (ls : List (ℕ × DeckLine)) (m : List (List ℕ)) (ws : List (Option FailedWrite)) → OnEachRun holds (plays (start m) ls ws)
  each_run ls m ws = on_each (plays (start m) ls ws) (begins_law ls m ws)
