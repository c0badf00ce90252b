-- A power line as it is called: power, the armed stop, the power-up, and the fuses taken away.
use Rattle.std.proofs.Common.{arith, ◌≡◌, ℕ, ◌<◌, true, List, length, Some, None, Result, Ok, Err, IfOk, sym, ◌∙◌, subst}
use Rattle.model_play.specs.model_device.specs.Orders.{Answer as Ended}
use Rattle.model_play.specs.model_device.specs.Device.{DeviceState, BenchState, Wrote, BenchWrote, IsImage, Makes, next_count}
use Rattle.model_play.specs.model_card.specs.Manager.{empty_session_state}
use Rattle.model_play.specs.DeckGrammar as line
use Rattle.mc_store.specs.Power.{power_writes, power_answer, failure_end, IsPowered, PowersUp}
use Rattle.mc_store.specs.declared.power.Up.{Up}
use Rattle.mc_store.specs.declared.power.Up.TheVariants as up
use Rattle.mc_card.specs.declared.card.Card.{Card}
use Rattle.mc_card.specs.Ends.{restart_end}
use Rattle.mc_card.specs.Parts.{device_in, session_state_in, with_device, IsReadyCard}
use Rattle.mc_script.specs.declared.answer.Answer.{Answer}
use Rattle.mc_script.specs.declared.answer.Answer.TheVariants as answer
use Rattle.mc_script.specs.declared.player.Power.{Power}
use Rattle.mc_script.specs.declared.armed.Armed.{Armed}
use Rattle.mc_script.specs.declared.armed.Armed.TheVariants as armed
use Rattle.mc_script.specs.declared.player.Power.TheVariants as power
use Rattle.mc_script.specs.declared.player.Player.{Player}
use Rattle.mc_script.specs.Players.{device_of}
use Rattle.mc_script.specs.Arming.{armed_bench, power_after_failure, answer_after_failure}
use Rattle.mc_script.specs.Lines.{SilentDone}
use Rattle.mc_script.proofs.BenchLemmas.{makes_stop}
use Rattle.mc_script.proofs.CardLemmas.{session_state_over, ready_over}
use Rattle.mc_script.proofs.TriedLemmas.{Handed}
use Rattle.mc_script.proofs.PowerLineLemmas.{runs_done, unusable_done, stop_done}

-- power was turned on, and the armed stop passed to the device
pub handed_power : (a : Armed) (d p u : DeviceState) (b c e : BenchState) → p ≡ record d { on = true } → c ≡ record b { powers = next_count b.powers } → u ≡ p → e ≡ armed_bench a c → Handed d b 1 a u e
handed_power a d p u b c e hp hc hu he = grind arith

module _ {N : Type 0} (state : N → DeviceState) (bench : N → BenchState) (wrote : N → ℕ → List ℕ → Ended → N → Type 0)
    (obeys : (d : N) (at : ℕ) (w : List ℕ) (a : Ended) (e : N) → (state d).on ≡ true → wrote d at w a e → Wrote (state d) at w a (state e))
    (burns : (d : N) (at : ℕ) (w : List ℕ) (a : Ended) (e : N) → (state d).on ≡ true → wrote d at w a e → BenchWrote (state d) (bench d) at a (state e) (bench e))
    (fits : (d : N) (at : ℕ) (w : List ℕ) (a : Ended) (e : N) → wrote d at w a e → (at < length (state d).words) × (length w ≡ 8)) where
  -- a card runs
  pub ready_power : (p : Player N) (u : N) (c e : Card N) (writes count : ℕ) → IsImage (state (device_of p)).words → Handed (state (device_of p)) (bench (device_of p)) 1 p.armed (state u) (bench u)
      → Makes wrote u (power_writes (state u).words) (Ok tt) (device_in c) → IsPowered (state u) writes count (state (device_in c)) → IsReadyCard state c → session_state_in state c ≡ empty_session_state
      → state (device_in e) ≡ state (device_in c) → bench (device_in e) ≡ record (bench (device_in c)) { cut = None; worn = None } → e ≡ with_device c (device_in e)
      → SilentDone state bench p line.Power (Some (answer.Ready writes)) (record p { card = e; power = power.On; armed = armed.Not })
  ready_power p u c e writes count image handed made powered ready session_state same free rest s n at =
      runs_done state bench wrote obeys burns fits p s n u (device_in c) e writes count at image handed made powered (record { state = same; bench = free })
      (ready_over state c e rest same ready) (session_state_over state c e rest same ∙ session_state)

  -- no card runs
  pub no_power : (p : Player N) (u : N) (c e : Card N) (r : Up) → IsImage (state (device_of p)).words → Handed (state (device_of p)) (bench (device_of p)) 1 p.armed (state u) (bench u)
      → Makes wrote u (power_writes (state u).words) (power_answer (failure_end r)) (device_in c) → PowersUp (state u) (failure_end r) (state (device_in c))
      → state (device_in e) ≡ state (device_in c) → bench (device_in e) ≡ record (bench (device_in c)) { cut = None; worn = None }
      → SilentDone state bench p line.Power (Some (answer_after_failure r p.armed)) (record p { card = e; power = power_after_failure r; armed = armed.Not })
  no_power p u c e (up.Unusable r) image handed made ends same free s n at =
      unusable_done state bench wrote obeys burns fits p s n u (device_in c) e r at image handed made ends (record { state = same; bench = free })
  no_power p u c e (up.Stop how) image handed made ends same free s n at =
      let stop = makes_stop wrote (power_writes (state u).words) u (device_in c) how made in
      stop_done state bench wrote obeys burns fits p s n u (device_in c) e stop.0 how at image handed stop.1 (record { state = same; bench = free })

  -- a power line whose card runs, by the result of the card's restart
  pub restart_ready : (p : Player N) (u : N) (c e : Card N) (r : Result ℕ Up) (writes : ℕ) → r ≡ Ok writes → IsImage (state (device_of p)).words → Handed (state (device_of p)) (bench (device_of p)) 1 p.armed (state u) (bench u)
      → Makes wrote u (power_writes (state u).words) (power_answer (restart_end c r)) (device_in c) → PowersUp (state u) (restart_end c r) (state (device_in c)) → IfOk r (λ n. IsReadyCard state c) → IfOk r (λ n. session_state_in state c ≡ empty_session_state)
      → state (device_in e) ≡ state (device_in c) → bench (device_in e) ≡ record (bench (device_in c)) { cut = None; worn = None } → e ≡ with_device c (device_in e)
      → SilentDone state bench p line.Power (Some (answer.Ready writes)) (record p { card = e; power = power.On; armed = armed.Not })
  restart_ready p u c e (Err r) writes is image handed made ends ready session_state same free rest = absurd (cc is)
  restart_ready p u c e (Ok n) writes is image handed made ends ready session_state kept free rest =
      let same : n ≡ writes = cc is in
      subst (λ (i : ℕ). SilentDone state bench p line.Power (Some (answer.Ready i)) (record p { card = e; power = power.On; armed = armed.Not })) same
      (ready_power p u c e n _ image handed made ends ready session_state kept free rest)

  pub restart_failed : (p : Player N) (u : N) (c e : Card N) (r : Result ℕ Up) (f : Up) (pw : Power) (ans : Answer) → r ≡ Err f → IsImage (state (device_of p)).words → Handed (state (device_of p)) (bench (device_of p)) 1 p.armed (state u) (bench u)
      → Makes wrote u (power_writes (state u).words) (power_answer (restart_end c r)) (device_in c) → PowersUp (state u) (restart_end c r) (state (device_in c))
      → state (device_in e) ≡ state (device_in c) → bench (device_in e) ≡ record (bench (device_in c)) { cut = None; worn = None } → pw ≡ power_after_failure f → ans ≡ answer_after_failure f p.armed
      → SilentDone state bench p line.Power (Some ans) (record p { card = e; power = pw; armed = armed.Not })
  restart_failed p u c e r f pw ans is image handed made ends same free goes says =
      subst (λ (x : Power). SilentDone state bench p line.Power (Some ans) (record p { card = e; power = x; armed = armed.Not })) (sym goes)
      (subst (λ (x : Answer). SilentDone state bench p line.Power (Some x) (record p { card = e; power = power_after_failure f; armed = armed.Not })) (sym says)
      (no_power p u c e f image handed (subst (λ (x : Result ℕ Up). Makes wrote u (power_writes (state u).words) (power_answer (restart_end c x)) (device_in c)) is made)
      (subst (λ (x : Result ℕ Up). PowersUp (state u) (restart_end c x) (state (device_in c))) is ends) same free))
