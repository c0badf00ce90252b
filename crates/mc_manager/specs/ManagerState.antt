-- The state of the manager, the session state of the model that it represents over a bank, and when it fits the bank.
use Rattle.std.specs.Prelude.{◌≡◌, ℕ, ◌≤◌, List, length, take, option_map, Option, Some, IsSome}
use Rattle.std.specs.Option.{ForSome}
use Rattle.model_card.specs.declared.card.Part.{Part}
use Rattle.model_card.specs.declared.card.Part.TheVariants.{Code, Data, Dir, Fci}
use Rattle.model_card.specs.declared.card.Sizes.{Sizes}
use Rattle.model_card.specs.model_device.specs.Bytes.{lookup}
use Rattle.model_card.specs.model_device.specs.Card.{App}
use Rattle.model_card.specs.Items.{Site}
use Rattle.model_card.specs.Manager.{Selected, Open, SessionState}
use Rattle.mc_bank.specs.Bank.{BankState, part_len, IsGoodSite, HasParts}
use Rattle.mc_bank.specs.declared.bank.Bank.{Ghosts}
use Rattle.mc_manager.specs.declared.selection.Selection.{Selection}

-- ---- a bank

-- what a bank shows at one moment: its state, the names of its slots, where it has room, and the bytes at its sites
pub record BankView : Type 0 where
  pub state : BankState
  pub named : ℕ → Option (List ℕ)
  pub room : Sizes → Option ℕ
  pub site_bytes : Site → Part → List ℕ

-- the view of a bank, by the record of its trait
abbrev pub view_of : {B : Type 0} → Ghosts B → B → BankView
view_of ghosts bank = record { state = ghosts.state bank; named = ghosts.named bank; room = ghosts.room bank; site_bytes = ghosts.site_bytes bank }

-- ---- a manager

-- an open load: its site, the number of bytes that code, data and FCI have received, and the bytes that the DIR has
-- received
pub record Loaded : Type 0 where
  pub site : Site
  pub code : ℕ
  pub init : ℕ
  pub dir : List ℕ
  pub fci : ℕ

-- the selected application and the open load
pub record ManagerState : Type 0 where
  pub selected : Option Selection
  pub load : Option Loaded

-- the number of bytes that a section has received
abbrev pub got_len : Part → Loaded → ℕ
got_len Code l = l.code
got_len Data l = l.init
got_len Dir l = length l.dir
got_len Fci l = l.fci

-- ---- the session state

-- what a section has received: the first bytes of its place in the bank
abbrev pub got_at : (Site → Part → List ℕ) → Loaded → Part → List ℕ
got_at site_bytes l p = take (got_len p l) (site_bytes l.site p)

-- an open load, as the model has it
abbrev pub open_of : (Site → Part → List ℕ) → Loaded → Open
open_of site_bytes l =
    record {
      site = l.site;
      got = record { code = got_at site_bytes l Code; init = got_at site_bytes l Data; dir = got_at site_bytes l Dir; fci = got_at site_bytes l Fci };
    }

-- the open load of a manager, if there is one, as the model has it
abbrev pub load_of : (Site → Part → List ℕ) → ManagerState → Option Open
load_of site_bytes m = option_map (open_of site_bytes) m.load

-- the selection, as the model has it; its session bytes are kept by whoever runs the application
abbrev pub selected_of : List ℕ → ManagerState → Option Selected
selected_of session m = option_map (λ s. record { name = s.aid; session = session }) m.selected

-- the session state of the model
abbrev pub session_state_of : (Site → Part → List ℕ) → List ℕ → ManagerState → SessionState
session_state_of site_bytes session m = record { selected = selected_of session m; load = load_of site_bytes m }

-- ---- the fit

-- whether an open load fits a bank: its site is good, each of its sections has its size there and has received no more,
-- and the bytes of the DIR are there
pub record FitsLoad (v : BankView) (l : Loaded) : Type 0 where
  pub good : IsGoodSite v.state.apps v.room l.site
  pub parts : HasParts l.site (v.site_bytes l.site)
  pub within : (p : Part) → got_len p l ≤ part_len p l.site.sizes
  pub dir : got_at v.site_bytes l Dir ≡ l.dir

-- whether a manager fits a bank: the selected application is in its slot, and the open load fits
pub record ManagerFits (v : BankView) (m : ManagerState) : Type 0 where
  pub selected : ForSome m.selected (λ s. v.named s.slot ≡ Some s.aid)
  pub load : ForSome m.load (FitsLoad v)

-- ---- names

-- the application of this name, which is on the card
pub record NamedBy (apps : List (List ℕ × App)) (named : ℕ → Option (List ℕ)) (name : List ℕ) (s : Selection) : Type 0 where
  pub aid : s.aid ≡ name
  pub slot : named s.slot ≡ Some s.aid
  pub app : IsSome (lookup apps name)
