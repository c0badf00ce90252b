-- A session state that was saved fits the words of its card, and a card with it is ready.
use Rattle.std.proofs.Common.{◌≡◌, ℕ, List, Option, sym, subst}
use Rattle.std.specs.Option.{ForSome}
use Rattle.mc_words.specs.model_device.specs.Device.{DeviceState}
use Rattle.mc_manager.specs.ManagerState.{ManagerState, Loaded, FitsLoad}
use Rattle.mc_card.specs.declared.card.Card.{Card}
use Rattle.mc_card.specs.Parts.{words_in, view_in, IsReadyCard}
use Rattle.mc_card.specs.Saved.{SavedState, saved_of, view_of_words, FitsWords}

module _ {N : Type 0} (state : N → DeviceState) where
  load_on_words : (c : Card N) (l : Option Loaded) → ForSome l (FitsLoad (view_in state c)) → ForSome l (FitsLoad (view_of_words (words_in state c)))
  load_on_words c l h x is =
      let f = h x is in
      record { good = f.good; parts = f.parts; within = f.within; dir = f.dir }

  load_on_card : (c : Card N) (l : Option Loaded) → ForSome l (FitsLoad (view_of_words (words_in state c))) → ForSome l (FitsLoad (view_in state c))
  load_on_card c l h x is =
      let f = h x is in
      record { good = f.good; parts = f.parts; within = f.within; dir = f.dir }

  -- the session state of a card that is ready fits its words
  pub fits_words : (c : Card N) → IsReadyCard state c → FitsWords (words_in state c) (saved_of c)
  fits_words c ready = record { manager = record { selected = ready.up.fits.selected; load = load_on_words c c.manager.load ready.up.fits.load }; session = ready.up.session }

  -- a card with a session state that fits its words is ready
  pub ready_with : (c : Card N) (s : SavedState) → IsReadyCard state c → FitsWords (words_in state c) s → IsReadyCard state (record c { manager = s.manager; session = s.session })
  ready_with c s ready fits =
      record {
        up = record { going = ready.up.going; fits = record { selected = fits.manager.selected; load = load_on_card c s.manager.load fits.manager.load }; session = fits.session };
        idle = ready.idle;
      }

  -- so it is by its parts
  pub ready_as : (c : Card N) (m : ManagerState) (b : List ℕ) (s : SavedState) → m ≡ s.manager → b ≡ s.session → IsReadyCard state c → FitsWords (words_in state c) s
      → IsReadyCard state (record c { manager = m; session = b })
  ready_as c m b s em eb ready fits =
      subst (λ (x : ManagerState). IsReadyCard state (record c { manager = x; session = b })) (sym em)
      (subst (λ (y : List ℕ). IsReadyCard state (record c { manager = s.manager; session = y })) (sym eb) (ready_with c s ready fits))
