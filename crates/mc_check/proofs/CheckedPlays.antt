-- The property that accepted code has in every run that begins well, in every turn of a play.
use Rattle.std.proofs.Common.{arith, ℕ, zero, suc, Bool, true, false, List, [], ◌∷◌, Option, Some, None}
use Rattle.std.specs.Prelude.{drop}
use Rattle.std.specs.List.{AllByRecursion}
use Rattle.law_family.specs.model_device.proofs.ImageLemmas.{all_append}
use Rattle.law_family.specs.model_machine.specs.Apdu.{ApduParts}
use Rattle.law_family.specs.model_device.specs.Card.{App, Card}
use Rattle.law_family.specs.model_machine.specs.Chain.{Chain, Turn, Follows, Continues, Ends, turn_of_chain}
use Rattle.law_family.specs.model_card.specs.Items.{card_done}
use Rattle.law_family.specs.model_card.specs.Manager.{Selected, SessionState, Route, route}
use Rattle.law_family.specs.model_play.specs.DeckGrammar.{DeckLine}
use Rattle.law_family.specs.model_play.specs.Laws.{bytes_of}
use Rattle.law_family.specs.model_play.specs.Play.{FailedWrite, Live, State, BeforePower, AfterPower, is_done, first_failure, plays, start, step}
use Rattle.law_family.specs.model_device.specs.PowerUp.{Base}
use Rattle.law_family.specs.model_card.specs.Commands.{command}
use Rattle.law_family.specs.Begins.{BehindDone, OnPassed, OnRouted, OnSent, OnTaken, OnLine, OnEachRun}
use Rattle.law_family.proofs.EachRun.{each_run}
use Rattle.mc_check.specs.Checked.{RunsCode, IsCalm, OnFollows, RunsCalmly}
use Rattle.mc_check.specs.Plays.{ReportsCalmly, CheckedPlaysLaw}
use Rattle.mc_check.specs.Turns.{turns_on, turns_from, turns_passed, turns_routed, turns_behind, turns_sent, turns_taken, turns_in}
use Rattle.mc_check.proofs.TurnsReported.{line_reports}

module _ (code : List ℕ) (session deepest : ℕ) where
  -- the property of a turn with its chain
  abbrev Calm : Chain × Turn → Type 0
  Calm p = RunsCode code session p.0 → IsCalm session deepest p.1

  abbrev RunsChecked : ℕ → Chain → Type 0
  RunsChecked = RunsCalmly code session deepest

  -- ---- runs

  on_calm : (f : Follows) (holds : Chain → Type 0) (rest : Chain → List (Chain × Turn)) → OnFollows f holds → ((c : Chain) → holds c → AllByRecursion Calm (rest c)) → AllByRecursion Calm (turns_on f rest)
  on_calm (Ends o) holds rest h more = tt
  on_calm (Continues c) holds rest h more = more c h

  run_calm : (n : ℕ) (ch : Chain) → RunsChecked n ch → AllByRecursion Calm (turns_from n ch)
  unfolding turns_from RunsCalmly
  run_calm zero ch h = (h, tt)
  run_calm (suc n) ch h = (h.0, on_calm (turn_of_chain ch).follows (λ c. RunsChecked n c) (λ c. turns_from n c) h.1 (λ c k. run_calm n c k))

  -- ---- commands

  passed_calm : (m : List (List ℕ × App)) (budget : ℕ) (o : Option Selected) (a : ApduParts) → OnPassed RunsChecked m budget o a → AllByRecursion Calm (turns_passed m budget o a)
  passed_calm m budget None a h = tt
  passed_calm m budget (Some s) a h = run_calm budget _ h

  routed_calm : (m : List (List ℕ × App)) (session_state : SessionState) (budget : ℕ) (r : Route) → OnRouted RunsChecked m session_state budget r → AllByRecursion Calm (turns_routed m session_state budget r)
  routed_calm m session_state budget r h = grind (arith, passed_calm)

  behind_calm : (d : Bool) (later : Type 0) (ts : List (Chain × Turn)) → (later → AllByRecursion Calm ts) → BehindDone d later → AllByRecursion Calm (turns_behind d ts)
  behind_calm true later ts more h = more h
  behind_calm false later ts more h = tt

  sent_calm : (c : Card) (session_state : SessionState) (budget : ℕ) (bs : List (List ℕ)) → OnSent RunsChecked c session_state budget bs → AllByRecursion Calm (turns_sent c session_state budget bs)
  sent_calm c session_state budget [] h = tt
  sent_calm c session_state budget (b ∷ bs) h =
      let r = command c session_state b budget in
      let d = card_done c r.items in
      let rest = turns_sent d r.session_state budget bs in
      all_append Calm (turns_routed c.apps session_state budget (route b)) (turns_behind (is_done r.outcome) rest) (routed_calm c.apps session_state budget (route b) h.0)
      (behind_calm (is_done r.outcome) (OnSent RunsChecked d r.session_state budget bs) rest (λ k. sent_calm d r.session_state budget bs k) h.1)

  -- ---- lines

  taken_calm : (v : Live) (b : Base) (budget : ℕ) (bs : List (List ℕ)) → OnTaken RunsChecked v b budget bs → AllByRecursion Calm (turns_taken v b budget bs)
  taken_calm v b budget bs h = grind (arith, sent_calm)

  line_calm : (s : State) (bs : List (List ℕ)) → OnLine RunsChecked s bs → AllByRecursion Calm (turns_in s bs)
  line_calm (BeforePower m b a) bs h = tt
  line_calm (AfterPower s) bs h = taken_calm s.live s.base s.budget bs h

  plays_calm : (s : State) (ls : List (ℕ × DeckLine)) (ws : List (Option FailedWrite)) → OnEachRun RunsChecked (plays s ls ws) → AllByRecursion (ReportsCalmly code session deepest) (plays s ls ws)
  unfolding plays
  plays_calm s [] ws h = tt
  plays_calm s (l ∷ ls) ws h =
      let t = step s l (first_failure ws) in
      (record { reported = line_reports s l (first_failure ws); calm = line_calm t.before (bytes_of t.line) h.0 }, plays_calm t.after ls (drop 1 ws) h.1)

pub checked_plays_law : CheckedPlaysLaw
checked_plays_law ls m ws code session deepest keeps = plays_calm code session deepest (start m) ls ws (each_run (RunsCalmly code session deepest) keeps ls m ws)
