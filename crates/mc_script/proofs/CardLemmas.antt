-- A card over another device with the same state, and the words of a card that runs.
use Rattle.std.proofs.Common.{arith, ◌≡◌, ℕ, true, ◌&&◌, sym, ◌∙◌, ap, subst}
use Rattle.std.specs.Prelude.{is_none, ◌==◌, length}
use Rattle.std.proofs.lemmas.Bool.{and_parts}
use Rattle.model_play.specs.model_device.specs.Device.{DeviceState}
use Rattle.model_play.specs.model_device.specs.Image.{Look, look, count_of_recovery_writes, debt}
use Rattle.model_play.specs.model_device.specs.Layout.{words_fault}
use Rattle.model_play.specs.model_device.specs.Card.{means}
use Rattle.mc_store.specs.Store.{is_closed, is_going, store_site_bytes}
use Rattle.mc_store.specs.Power.{count_of}
use Rattle.mc_card.specs.declared.card.Card.{Card}
use Rattle.mc_card.specs.Parts.{device_in, session_state_in, with_device, IsReadyCard}
use Rattle.mc_manager.specs.ManagerState.{session_state_of}

closed_owes_none : (l : Look) → is_closed l ≡ true → debt l ≡ 0
closed_owes_none l h = grind arith

pub going_parts : (d : DeviceState) (n : ℕ) → is_going d n ≡ true → (d.on ≡ true) × (is_closed (look d.words) ≡ true)
unfolding is_going
going_parts d n h =
    let a1 = d.on && is_closed (look d.words) in
    let a2 = a1 && is_none (words_fault d.words) in
    let a3 = a2 && (means d.words).layout == 2 in
    let p4 = and_parts a3 (n == length (means d.words).apps) h in
    let p3 = and_parts a2 ((means d.words).layout == 2) p4.0 in
    let p2 = and_parts a1 (is_none (words_fault d.words)) p3.0 in
    and_parts d.on (is_closed (look d.words)) p2.0

module _ {N : Type 0} (state : N → DeviceState) where
  -- a card that runs has power, and recovery has no write left to make
  pub ready_on : (c : Card N) → IsReadyCard state c → (state (device_in c)).on ≡ true
  ready_on c r = (going_parts (state (device_in c)) (count_of c.store) r.up.going).0

  pub ready_owes : (c : Card N) → IsReadyCard state c → count_of_recovery_writes (state (device_in c)).words ≡ 0
  ready_owes c r = closed_owes_none (look (state (device_in c)).words) (going_parts (state (device_in c)) (count_of c.store) r.up.going).1

  session_state_with : (c : Card N) (d : N) → state d ≡ state (device_in c) → session_state_in state (with_device c d) ≡ session_state_in state c
  session_state_with c d same = ap (λ (x : DeviceState). session_state_of (store_site_bytes x) c.session c.manager) same

  ready_with : (c : Card N) (d : N) → state d ≡ state (device_in c) → IsReadyCard state c → IsReadyCard state (with_device c d)
  ready_with c d same r = grind arith

  -- a card over another device with the same state has the same session state
  pub session_state_over : (c u : Card N) → u ≡ with_device c (device_in u) → state (device_in u) ≡ state (device_in c) → session_state_in state u ≡ session_state_in state c
  session_state_over c u is same = ap (λ (x : Card N). session_state_in state x) is ∙ session_state_with c (device_in u) same

  pub ready_over : (c u : Card N) → u ≡ with_device c (device_in u) → state (device_in u) ≡ state (device_in c) → IsReadyCard state c → IsReadyCard state u
  ready_over c u is same r = subst (λ (x : Card N). IsReadyCard state x) (sym is) (ready_with c (device_in u) same r)
