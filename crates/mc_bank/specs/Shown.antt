-- The application of a slot, as its entry has it.
use Rattle.std.specs.Prelude.{◌≡◌, ℕ, ◌+◌, ◌≤◌, List, length, take, drop, IsSome, Some}
use Rattle.model_card.specs.model_device.specs.Bytes.{lookup}
use Rattle.model_card.specs.model_device.specs.Card.{App}
use Rattle.mc_bank.specs.declared.bank.Facts.{Facts}
use Rattle.mc_bank.specs.declared.entries.Entry.{Entry}
use Rattle.mc_bank.specs.Bank.{app_of, sizes_of, FitsLimits}
use Rattle.mc_bank.specs.Memory.{memory_named, apps_from}

-- the application of a slot
abbrev pub app_at : List Entry → ℕ → App
app_at m k = app_of (apps_from 0 m) (memory_named m k)

-- a section is the front of the memory of an entry
abbrev pub IsFront : List ℕ → List ℕ → Type 0
IsFront xs ys = (at n : ℕ) → at + n ≤ length xs → (at + n ≤ length ys) × (take n (drop at ys) ≡ take n (drop at xs))

-- facts are those of an application
pub record AreFactsOf (m : List Entry) (k : ℕ) (f : Facts) : Type 0 where
  pub name : memory_named m k ≡ Some f.aid
  pub app : IsSome (lookup (apps_from 0 m) f.aid)
  pub sizes : f.sizes ≡ sizes_of (app_at m k)
  pub limits : FitsLimits f.sizes

-- an entry has the application of a slot
pub record EntryShows (m : List Entry) (k : ℕ) (e : Entry) : Type 0 where
  pub some : IsSome e.facts
  pub facts : (f : Facts) → e.facts ≡ Some f → AreFactsOf m k f
  pub code : IsFront (app_at m k).code e.code
  pub fixed : IsFront (app_at m k).fixed e.fixed
  pub fci : IsFront (app_at m k).fci e.fci
