-- What a power-up does: recovery (the replay of the open journal), then the migration of a card of layout 1; and what a
-- stop leaves.
use Rattle.std.specs.Prelude.{◌≡◌, ◌≢◌, ℕ, ◌+◌, ◌-◌, ◌<◌, ◌≤◌, true, cond, ◌==◌, List, [], ◌∷◌, ◌++◌, length, slice_set, Some, None, Result, Ok, Err}
use Rattle.mc_words.specs.model_device.specs.declared.cause.Cause.{Cause}
use Rattle.mc_words.specs.model_device.specs.declared.cause.Cause.TheVariants.{BadJournal}
use Rattle.mc_words.specs.model_device.specs.declared.device.Stop.{Stop}
use Rattle.mc_words.specs.model_device.specs.Orders.{Answer}
use Rattle.mc_words.specs.model_device.specs.Image.{Journal, One, look, which, count_of_recovery_writes, Only, Closed, Refused}
use Rattle.mc_words.specs.model_device.specs.Device.{DeviceState, Ended, GrowsBy, done_entries, torn_entries}
use Rattle.mc_words.specs.model_device.specs.Stopped.{writes, owed_writes, image_after_stop, stands, owes, remains}
use Rattle.mc_words.specs.model_device.specs.Card.{word, means}
use Rattle.mc_words.specs.model_device.specs.Layout.{fault}
use Rattle.mc_words.specs.model_device.specs.PowerUp.{Base, OnCard, AtFault, base_of, migration, base_after_migration, pending_journal}
use Rattle.mc_store.specs.Store.{settled_words, is_going}
use Rattle.mc_store.specs.declared.store.Store.{Store}
use Rattle.mc_store.specs.declared.power.Ready.{Ready}
use Rattle.mc_store.specs.declared.power.Up.{Up}
use Rattle.mc_store.specs.declared.power.Up.TheVariants as up

-- ---- the device writes

-- what words are: a card, or a fault with its place
abbrev pub base_of_words : List (List ℕ) → Base
base_of_words m = base_of (fault m) m

-- the one word of a migration: the root with version 2
abbrev pub new_root : List (List ℕ) → List (ℕ × List ℕ)
new_root m = (0, slice_set (word m 0) 3 2) ∷ []

-- the device writes of the migration of a card with these words, if it has layout 1
abbrev pub migration_writes : Base → List (List ℕ) → List (ℕ × List ℕ)
migration_writes (OnCard c) m = cond (c.layout == 1) (writes One (new_root m)) []
migration_writes (AtFault cause p) m = []

-- the device writes of a power-up: those that recovery still has to make, and after them those of a migration
unfoldable pub power_writes : List (List ℕ) → List (ℕ × List ℕ)
power_writes m = owed_writes (look m) ++ migration_writes (base_of_words m) (settled_words m)

-- the number of device writes of a power-up
abbrev pub power_count : List (List ℕ) → ℕ
power_count m = count_of_recovery_writes m + migration (base_of_words m)

-- ---- how it ends

-- words that hold a base, and on which recovery still has to make n writes, of this journal if there are any
pub record HoldsBase (b : Base) (n : ℕ) (j : Journal) (m : List (List ℕ)) : Type 0 where
  pub base : base_of_words m ≡ b
  pub owed : count_of_recovery_writes m ≡ n
  pub by : n ≢ 0 → which m ≡ Only j

-- a card is there, with layout 2, and the store runs
pub record IsPowered (d : DeviceState) (n c : ℕ) (e : DeviceState) : Type 0 where
  pub card : fault d.words ≡ None
  pub number : n ≡ power_count d.words
  pub means : means e.words ≡ record (means d.words) { layout = 2 }
  pub going : is_going e c ≡ true
  pub base : HoldsBase (base_after_migration (base_of_words d.words)) 0 One e.words
  pub ended : Ended (Ok tt) d e
  pub tape : GrowsBy d.tape (done_entries (power_writes d.words)) e.tape

-- the words hold no card; recovery has made its writes, and nothing else was written
pub record IsUnusable (d : DeviceState) (c : Cause) (p : ℕ) (e : DeviceState) : Type 0 where
  pub fault : fault d.words ≡ Some (c, p)
  pub words : e.words ≡ settled_words d.words
  pub base : HoldsBase (base_of_words d.words) 0 One e.words
  pub ended : Ended (Ok tt) d e
  pub tape : GrowsBy d.tape (done_entries (power_writes d.words)) e.tape

-- what a stop at write k, which left x, makes of words m: in recovery the base is as before, in the migration it has
-- the old or the new root, and the writes that recovery still has to make are in journal 1
abbrev pub IsHalted : List (List ℕ) → ℕ → List ℕ → List (List ℕ) → Type 0
IsHalted m k x n =
    (k ≤ count_of_recovery_writes m → HoldsBase (base_of_words m) (remains (pending_journal (which m)) (count_of_recovery_writes m - 1) k x) (pending_journal (which m)) n)
    × (count_of_recovery_writes m < k → HoldsBase (cond (stands One 1 (k - count_of_recovery_writes m) x) (base_after_migration (base_of_words m)) (base_of_words m)) (owes One 1 (k - count_of_recovery_writes m) x) One n)

-- a power-up that was stopped at write k, which left x
pub record IsTorn (d : DeviceState) (s : Stop) (e : DeviceState) : Type 0 where
  pub k : ℕ
  pub x : List ℕ
  pub low : 1 ≤ k
  pub high : k ≤ power_count d.words
  pub size : length x ≡ 8
  pub words : e.words ≡ image_after_stop d.words (power_writes d.words) k x
  pub halted : IsHalted d.words k x e.words
  pub ended : Ended (Err s) d e
  pub tape : GrowsBy d.tape (torn_entries (power_writes d.words) k x s) e.tape

-- how a power-up ended
pub data Powered : Type 0 where
  Runs : (number count : ℕ) → Powered
  Halts : Stop → Powered
  Fails : Cause → ℕ → Powered

-- a power-up ended so
abbrev pub PowersUp : DeviceState → Powered → DeviceState → Type 0
PowersUp d (Runs number count) e = IsPowered d number count e
PowersUp d (Halts s) e = IsTorn d s e
PowersUp d (Fails cause place) e = IsUnusable d cause place e

-- how the device writes of a power-up ended
abbrev pub power_answer : Powered → Answer
power_answer (Runs number count) = Ok tt
power_answer (Halts s) = Err s
power_answer (Fails cause place) = Ok tt

-- the ends that words allow, whatever stops
abbrev pub PowerFollows : List (List ℕ) → Powered → Type 0
PowerFollows m (Runs number count) = (fault m ≡ None) × (number ≡ power_count m) × (count ≡ length (means m).apps)
PowerFollows m (Halts s) = Unit {0}
PowerFollows m (Fails cause place) = fault m ≡ Some (cause, place)

-- the ends of a recovery alone: with the number of its writes, or at a bad journal
abbrev pub RecoverFollows : List (List ℕ) → Powered → Type 0
RecoverFollows m (Runs number count) = (number ≡ count_of_recovery_writes m) × (look (settled_words m) ≡ Closed)
RecoverFollows m (Halts s) = Unit {0}
RecoverFollows m (Fails cause place) = (cause ≡ BadJournal) × (look m ≡ Refused place)

-- the ends of what follows a recovery of n writes, on words with no open journal
abbrev pub FinishFollows : List (List ℕ) → ℕ → Powered → Type 0
FinishFollows m n (Runs number count) = (fault m ≡ None) × (number ≡ n + migration (base_of_words m)) × (count ≡ length (means m).apps)
FinishFollows m n (Halts s) = Unit {0}
FinishFollows m n (Fails cause place) = fault m ≡ Some (cause, place)

-- ---- the result of the call

-- the device of a store, and the number of applications that it counts
abbrev pub device_of : {N : Type 0} → Store N → N
device_of s = s.device

-- the number of applications that a store counts
abbrev pub count_of : {N : Type 0} → Store N → ℕ
count_of s = s.count

-- a store over another device
abbrev pub over : {N : Type 0} → Store N → N → Store N
over s d = record s { device = d }

-- the end of a power-up without a store
abbrev pub failure_end : Up → Powered
failure_end (up.Stop s) = Halts s
failure_end (up.Unusable u) = Fails u.cause u.place

-- the end of the work on a device, before there is a store
abbrev pub preparation_end : Result Ready Up → Powered
preparation_end (Ok r) = Runs r.writes r.count
preparation_end (Err u) = failure_end u

-- the end of a recovery alone
abbrev pub recovery_end : Result ℕ Up → Powered
recovery_end (Ok n) = Runs n 0
recovery_end (Err u) = failure_end u

-- the end of a power-up
abbrev pub power_up_end : {N : Type 0} → Result (Store N × ℕ) (N × Up) → Powered
power_up_end (Ok p) = Runs p.1 (count_of p.0)
power_up_end (Err p) = failure_end p.1

-- the device after a power-up
abbrev pub device_after : {N : Type 0} → Result (Store N × ℕ) (N × Up) → N
device_after (Ok p) = device_of p.0
device_after (Err p) = p.0

-- the end of a restart of a store, by the store after it
abbrev pub restart_end : {N : Type 0} → Store N → Result ℕ Up → Powered
restart_end s (Ok n) = Runs n (count_of s)
restart_end s (Err u) = failure_end u
