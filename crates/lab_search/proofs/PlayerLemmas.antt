-- A player that plays a line, or a deck, goes on playing; and without a failed write it plays as the definition has it.
use Rattle.std.proofs.Common.{◌≡◌, ap, sym, subst, ◌∙◌, refl}
use Rattle.std.specs.Prelude.{ℕ, true, List, [], ◌∷◌, length, Option, None}
use Rattle.law_explore_text.specs.model_device.specs.Device.{DeviceState, BenchState, Entry}
use Rattle.law_explore_text.specs.model_machine.specs.Chain.{Turn}
use Rattle.law_explore_text.specs.model_play.specs.DeckGrammar.{DeckLine}
use Rattle.law_explore_text.specs.model_play.specs.Play.{Armed, Unarmed, ArmedCut, ArmedFail, Warm, State, AfterPower, FailedWrite, Step, armed_stop_in, step, steady_at, moves_of, words_left}
use Rattle.law_explore_text.specs.model_play.specs.TraceText.{shown_turns}
use Rattle.mc_script.specs.declared.answer.Answer.{Answer}
use Rattle.mc_script.specs.declared.player.Player.{Player}
use Rattle.mc_script.specs.Players.{device_of, IsPlayerAt, IsPlaying, IsUnfused}
use Rattle.mc_script.specs.Plays.{StepTape}
use Rattle.mc_script.specs.Lines.{DeckPlayed, LineDone, Stepped}
use Rattle.lab_search.specs.Playing.{FailsNot, PlayedAs, PlaysAs}

-- a device without fuses
pub unfused_after : (b c : BenchState) → b ≡ record c { cut = None; worn = None } → IsUnfused b
unfused_after b c e = record { cut = ap (λ (x : BenchState). x.cut) e; worn = ap (λ (x : BenchState). x.worn) e }

-- no failed write comes of a bench that refuses none by itself
no_failure : (a : Armed) (l : DeckLine) (m : ℕ) → FailsNot a → steady_at a l m ≡ None
no_failure Unarmed l m h = refl
no_failure (ArmedCut k x) l m h = refl
no_failure (ArmedFail k) l m h = absurd h

-- no entry leaves the words
no_entries : (m : List (List ℕ)) (es : List Entry) (s : State) (w : Warm) → s ≡ AfterPower w → length es ≡ 0 → words_left m es s ≡ m
no_entries m [] s w is none = ap (λ (t : State). words_left m [] t) is
no_entries m (e ∷ es) s w is none = absurd (cc none)

module _ {N : Type 0} (state : N → DeviceState) (bench : N → BenchState) where
  -- a player that played a line is playing
  pub line_playing : {R : Type 0} (reported : R → List Turn → R → Type 0) (p q : Player N) (l : DeckLine) (before after : R) (a : Option Answer)
      → LineDone state bench reported p l before after a q → IsPlaying state bench p → IsPlaying state bench q
  line_playing reported p q l before after a done h =
      let d = done h.0 0 h.1 in
      ((step h.0 (0, l) d.0).after, d.1.stepped.at)

  -- a player that played a deck is playing
  pub deck_playing : (p q : Player N) (ls : List (ℕ × DeckLine)) → ((s : State) → IsPlayerAt state bench p s → DeckPlayed state bench p s ls q) → IsPlaying state bench p → IsPlaying state bench q
  deck_playing p q ls done h =
      let d = done h.0 h.1 in
      (d.here, d.at)

  -- ---- without a failed write

  played_words : (p q : Player N) (s : State) (l : ℕ × DeckLine) (t : Step) (w : Warm) → StepTape s l None t (state (device_of p)) (state (device_of q)) → t.after ≡ AfterPower w → t.moves ≡ 0
      → (state (device_of q)).words ≡ (state (device_of p)).words
  played_words p q s l t w tape is none = sym tape.left ∙ no_entries (state (device_of p)).words tape.entries t.after w is (tape.accounts.count ∙ none)

  as_stepped : (p q : Player N) (s : State) (l : ℕ × DeckLine) (a : Option Answer) → (bench (device_of p)).steady ≡ true → Stepped state bench p s l None (step s l None) a q → PlayedAs state bench p s l a q
  as_stepped p q s l a steady h =
      record {
        at = h.at;
        answers = h.answers;
        steady = h.played.counts.counts.steady ∙ steady;
        words = λ w is none. played_words p q s l (step s l None) w h.played.tape is none;
      }

  -- the failed write of a line on such a bench
  none_failed : (p q : Player N) (s : State) (l : ℕ × DeckLine) (w : Option FailedWrite) (a : Option Answer) → (bench (device_of p)).steady ≡ true → FailsNot (armed_stop_in s)
      → Stepped state bench p s l w (step s l w) a q → w ≡ None
  none_failed p q s l w a steady fails h = h.played.steady steady ∙ no_failure (armed_stop_in s) l.1 (moves_of s l) fails

  -- on a steady device a player plays a line as the definition does
  pub plays_as : {R : Type 0} (reported : R → List Turn → R → Type 0) (p q : Player N) (l : DeckLine) (before after : R) (a : Option Answer)
      → LineDone state bench reported p l before after a q → PlaysAs state bench p l a q
  plays_as reported p q l before after a done s n at steady fails =
      let d = done s n at in
      let none : d.0 ≡ None = none_failed p q s (n, l) d.0 a steady fails d.1.stepped in
      as_stepped p q s (n, l) a steady (subst (λ (w : Option FailedWrite). Stepped state bench p s (n, l) w (step s (n, l) w) a q) none d.1.stepped)

  -- what is recorded of it
  pub reports_as : {R : Type 0} (reported : R → List Turn → R → Type 0) (p q : Player N) (l : DeckLine) (before after : R) (a : Option Answer)
      → LineDone state bench reported p l before after a q → (s : State) (n : ℕ) → IsPlayerAt state bench p s → (bench (device_of p)).steady ≡ true → FailsNot (armed_stop_in s)
      → reported before (shown_turns (step s (n, l) None).turns (step s (n, l) None).stop) after
  reports_as reported p q l before after a done s n at steady fails =
      let d = done s n at in
      let none : d.0 ≡ None = none_failed p q s (n, l) d.0 a steady fails d.1.stepped in
      subst (λ (w : Option FailedWrite). reported before (shown_turns (step s (n, l) w).turns (step s (n, l) w).stop) after) none d.1.reports
