-- The entries of a line account for it: after each of them the words hold the state of the play that was stopped there.
use Rattle.std.proofs.Common.{◌≡◌, ℕ, zero, suc, ◌+◌, ◌≤◌, List, [], ◌∷◌, length, Option, Some, None, refl, ap, arith}
use Rattle.std.specs.Prelude.{slice_set}
use Rattle.std.specs.List.{AllByRecursion}
use Rattle.model_play.specs.model_device.specs.declared.cause.Cause.{Cause}
use Rattle.model_play.specs.model_device.specs.declared.device.Stop.{Stop}
use Rattle.model_play.specs.model_device.specs.Image.{count_of_recovery_writes}
use Rattle.model_play.specs.model_device.specs.Device.{done_entries, torn_entries}
use Rattle.model_play.specs.DeckGrammar.{DeckLine}
use Rattle.model_play.specs.model_device.specs.Card.{Card, means}
use Rattle.model_play.specs.model_device.specs.Layout.{fault}
use Rattle.model_play.specs.model_device.specs.Stopped.{image_after_stop}
use Rattle.model_play.specs.model_device.specs.PowerUp.{Base, OnCard, AtFault, base_of, pending_journal}
use Rattle.model_play.specs.Play.{Warm, State, AfterPower, StandsForState, StandsForBase, StandsAtEach, state_after_stop}
use Rattle.mc_store.specs.Power.{base_of_words, HoldsBase}

-- ---- words that hold a state

pub base_card : (f : Option (Cause × ℕ)) (m : List (List ℕ)) (c : Card) → base_of f m ≡ OnCard c → (f ≡ None) × (means m ≡ c)
base_card None m c h = (refl, cc)
base_card (Some f) m c h = absurd (cc h)

pub base_fault : (f : Option (Cause × ℕ)) (m : List (List ℕ)) (cause : Cause) (p : ℕ) → base_of f m ≡ AtFault cause p → f ≡ Some (cause, p)
base_fault f m cause p h = grind arith

base_stands : (b : Base) (m : List (List ℕ)) (w : Warm) → base_of_words m ≡ b → count_of_recovery_writes m ≡ w.owed → StandsForBase m b w
base_stands (OnCard c) m w is n = let r = base_card (fault m) m c is in record { sound = r.0; meaning = r.1; owed = n }
base_stands (AtFault cause p) m w is n = record { unsound = base_fault (fault m) m cause p is; owed = n }

pub stands_after_power : (m : List (List ℕ)) (w : Warm) → HoldsBase w.base w.owed w.by m → StandsForState m (AfterPower w)
stands_after_power m w r = (base_stands w.base m w r.base r.owed, λ some. ap pending_journal (r.by some))

-- ---- the entries of a list

-- wherever one of the writes stops, and whatever word it leaves, the words hold the state of the play that was stopped
-- there
abbrev pub StopsStand : List (List ℕ) → State → ℕ × DeckLine → ℕ → List (ℕ × List ℕ) → Type 0
StopsStand m s l j ws = (k : ℕ) (x : List ℕ) → 1 ≤ k → k ≤ length ws → length x ≡ 8 → StandsForState (image_after_stop m ws k x) (state_after_stop s l (j + k) x)

stands_behind : (m : List (List ℕ)) (s : State) (l : ℕ × DeckLine) (j : ℕ) (p : ℕ × List ℕ) (ws : List (ℕ × List ℕ)) → StopsStand m s l j (p ∷ ws) → StopsStand (slice_set m p.0 p.1) s l (j + 1) ws
stands_behind m s l j p ws h zero x low high size = absurd (omega arith)
stands_behind m s l j p ws h (suc k) x low high size = grind (arith, h (suc (suc k)) x (omega arith) (omega (arith, high)) size)

first_stands : (m : List (List ℕ)) (s : State) (l : ℕ × DeckLine) (j : ℕ) (p : ℕ × List ℕ) (ws : List (ℕ × List ℕ)) (x : List ℕ) → StopsStand m s l j (p ∷ ws) → length x ≡ 8 → StandsForState (slice_set m p.0 x) (state_after_stop s l (j + 1) x)
first_stands m s l j p ws x h size = h 1 x (omega arith) (omega arith) size

pub each_done : (m : List (List ℕ)) (s : State) (l : ℕ × DeckLine) (j : ℕ) (ws : List (ℕ × List ℕ)) → StopsStand m s l j ws → AllByRecursion (λ p. length p.1 ≡ 8) ws → StandsAtEach m s l j (done_entries ws)
each_done m s l j [] h sizes = tt
each_done m s l j (p ∷ ws) h sizes = (first_stands m s l j p ws p.1 h sizes.0, each_done (slice_set m p.0 p.1) s l (j + 1) ws (stands_behind m s l j p ws h) sizes.1)

-- the words before the write that stopped have eight bytes
abbrev pub SizesTo : ℕ → List (ℕ × List ℕ) → Type 0
SizesTo n [] = Unit {0}
SizesTo zero (p ∷ ws) = Unit {0}
SizesTo (suc n) (p ∷ ws) = (length p.1 ≡ 8) × SizesTo n ws

pub each_torn : (m : List (List ℕ)) (s : State) (l : ℕ × DeckLine) (j : ℕ) (ws : List (ℕ × List ℕ)) (n : ℕ) (x : List ℕ) (how : Stop) → StopsStand m s l j ws → SizesTo n ws → length x ≡ 8
    → StandsAtEach m s l j (torn_entries ws (suc n) x how)
each_torn m s l j [] n x how h sizes size = tt
each_torn m s l j (p ∷ ws) zero x how h sizes size = (first_stands m s l j p ws x h size, tt)
each_torn m s l j (p ∷ ws) (suc n) x how h sizes size =
    (first_stands m s l j p ws p.1 h sizes.0, each_torn (slice_set m p.0 p.1) s l (j + 1) ws n x how (stands_behind m s l j p ws h) sizes.1 size)
