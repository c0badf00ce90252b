-- A card after the atomic writes of a chain.
use Rattle.std.proofs.Common.{arith, ◌≡◌, ℕ, true, false, List, length, Option, Some, Ok, ◌∙◌, subst}
use Rattle.mc_bank.specs.model_card.specs.declared.card.Part.{Part}
use Rattle.mc_words.specs.model_device.specs.Orders.{Answer, InOrder}
use Rattle.mc_words.specs.model_device.specs.Device.{DeviceState, Wrote as DeviceWrote}
use Rattle.mc_words.specs.model_device.specs.Card.{Card as ModelCard, means}
use Rattle.mc_bank.specs.model_card.specs.Items.{Site, BankItem, card_done, write_items}
use Rattle.mc_apdu.specs.model_machine.specs.Chain.{Write}
use Rattle.mc_bank.specs.Bank.{BankState, app_of}
use Rattle.mc_bank.proofs.Commits.{slots_in_order, sites_in_order}
use Rattle.mc_store.specs.declared.store.Store.{Store}
use Rattle.mc_store.specs.Store.{store_state, store_named, store_room, store_site_bytes}
use Rattle.mc_store.specs.StoreItems.{store_did}
use Rattle.mc_store.specs.GoingLaws.{going_is}
use Rattle.mc_store.specs.Laws.{store_keeps, store_spares, store_leaves}
use Rattle.mc_manager.specs.declared.selection.Selection.{Selection}
use Rattle.mc_manager.specs.ManagerState.{BankView, ManagerState, session_state_of}
use Rattle.mc_manager.proofs.CommitLemmas.{KeepsSlotsAndSites, fits_kept, session_state_kept}
use Rattle.mc_card.specs.declared.card.Card.{Card}
use Rattle.mc_machine.specs.Chains.{Chained, ChainWrote}
use Rattle.mc_card.specs.ItemWrites.{ItemsMade}
use Rattle.mc_card.specs.Parts.{card_in, session_state_in, with_session, IsUp}
use Rattle.mc_machine.proofs.SoundChains.{AreSound, SameLengths, sizes_done}
use Rattle.mc_card.proofs.MadeLemmas.{card_found}
use Rattle.mc_card.proofs.WriteLemmas.{AsCommits, as_commits, writes_made}
use Rattle.std.proofs.lemmas.Bool.{not-false}
use Rattle.mc_card.proofs.StoreBank.{store_bank}

-- a session state with other session bytes
session_state_with : (site_bytes : Site → Part → List ℕ) (old new : List ℕ) (m : ManagerState) → session_state_of site_bytes new m ≡ with_session new (session_state_of site_bytes old m)
session_state_with site_bytes old new m = grind arith

module _ {N : Type 0} (state : N → DeviceState) (wrote : N → ℕ → List ℕ → Answer → N → Type 0)
    (obeys : (d : N) (at : ℕ) (w : List ℕ) (a : Answer) (e : N) → (state d).on ≡ true → wrote d at w a e → DeviceWrote (state d) at w a (state e)) where
  abbrev bank_state : Store N → BankState
  bank_state s = store_state (state s.device) s.count

  abbrev did : Store N → BankItem → Answer → Store N → Type 0
  did s i a e = store_did state wrote s i a e

  -- the bank that the manager sees over a store
  abbrev view_at : Store N → BankView
  view_at s = record { state = bank_state s; named = store_named (state s.device); room = store_room (state s.device); site_bytes = store_site_bytes (state s.device) }

  -- the manager's slots and sites are unchanged by the writes of a chain
  pub view_stays : (ws : List Write) (s e : Store N) (a : Answer) → InOrder (ChainWrote (store_bank state wrote)) s ws a e → KeepsSlotsAndSites (view_at s) (view_at e)
  view_stays ws s e a h =
      let c : AsCommits (store_bank state wrote) s a e = as_commits (store_bank state wrote) ws s e a h in
      record {
        slots = slots_in_order did (λ s k. store_named (state s.device) k) (λ s i a e d. store_keeps state wrote obeys s.device e.device s.count e.count i a d) c.words s a e c.commits;
        sites = sites_in_order did bank_state (λ s. store_room (state s.device)) (λ s. store_site_bytes (state s.device)) (λ s n ws a e d. store_spares state wrote obeys s.device e.device s.count e.count n ws a d) (λ s n ws a e d. store_leaves state wrote obeys s.device e.device s.count e.count n ws a d) c.words s a e c.commits;
      }

  -- ---- a card that runs

  module _ (c : Card N) (up : IsUp state c) (ws : List Write) (sound : AreSound (card_in state c).apps ws) where
    -- the writes, as items of the definition
    pub card_made : (e : Store N) (a : Answer) → InOrder (ChainWrote (store_bank state wrote)) c.store ws a e → ItemsMade state wrote (card_in state c) (write_items ws) c.store.device a e.device
    card_made e a h = writes_made state wrote obeys ws c.store e a (going_is (state c.store.device) c.store.count up.going) sound h

    module _ (e : Store N) (h : InOrder (ChainWrote (store_bank state wrote)) c.store ws (Ok tt) e) where
      -- the card after them
      pub card_after : card_done (card_in state c) (write_items ws) ≡ means (state e.device).words
      card_after = card_found (card_done (card_in state c) (write_items ws)) 0 (state e.device).words (card_made e (Ok tt) h).done

      -- its applications have sections of the lengths before the writes
      pub sizes_after : SameLengths (card_in state c).apps (means (state e.device).words).apps
      sizes_after = subst (λ (m : ModelCard). SameLengths (card_in state c).apps m.apps) card_after (sizes_done ws (card_in state c).apps sound)

      -- it runs with as many session bytes as the selected application has
      pub still_up : (session : List ℕ) (chain : Option Chained) → (bank_state e).stopped ≡ false
          → ((s : Selection) → c.manager.selected ≡ Some s → length session ≡ (app_of (card_in state c).apps (Some s.aid)).session)
          → IsUp state (record { store = e; manager = c.manager; session = session; chain = chain })
      still_up session chain on size = grind (arith, not-false, fits_kept, view_stays, sizes_after)

      -- its session state, with unchanged session bytes
      pub same_session_state : session_state_of (store_site_bytes (state e.device)) c.session c.manager ≡ session_state_in state c
      same_session_state = session_state_kept (view_at c.store) (view_at e) c.manager (view_stays ws c.store e (Ok tt) h) up.fits c.session

      -- its session state with other session bytes
      pub session_state_after : (session : List ℕ) → session_state_of (store_site_bytes (state e.device)) session c.manager ≡ with_session session (session_state_in state c)
      session_state_after session =
          session_state_kept (view_at c.store) (view_at e) c.manager (view_stays ws c.store e (Ok tt) h) up.fits session ∙ session_state_with (store_site_bytes (state c.store.device)) c.session session c.manager
