-- When each command succeeds, and what of the bank it needs.
use Rattle.std.specs.Prelude.{◌≡◌, ℕ, Bool, true, false, not, ◌==◌, List, [], ◌∷◌, bytes_eq, is_none, unwrap_or, option_map, Option, Some, None, Ok}
use Rattle.model_card.specs.model_machine.specs.Apdu.{ApduParts}
use Rattle.model_card.specs.model_device.specs.Bytes.{lookup}
use Rattle.model_card.specs.model_device.specs.Card.{App}
use Rattle.model_card.specs.Manager.{p1p2, is_empty, sizes_in, first_status, select_refusals, open_refusals, create_refusals}
use Rattle.model_card.specs.Units.{name_of}
use Rattle.mc_manager.specs.declared.selection.Selection.{Selection}
use Rattle.mc_manager.specs.ManagerState.{BankView, Loaded, open_of, FitsLoad, NamedBy}
use Rattle.mc_manager.specs.Load.{empty_load, is_full}

-- the conditions for a SELECT to select this application
pub record CanSelect (apps : List (List ℕ × App)) (named : ℕ → Option (List ℕ)) (a : ApduParts) (s : Selection) : Type 0 where
  pub clear : first_status (select_refusals apps a) ≡ None
  pub found : NamedBy apps named a.body s

-- the conditions for an OPEN to open this load
pub record CanOpen (v : BankView) (a : ApduParts) (l : Loaded) : Type 0 where
  pub clear : first_status (open_refusals v.room v.state.apps a) ≡ None
  pub load : l ≡ empty_load (record { sizes = sizes_in a; place = unwrap_or (v.room (sizes_in a)) 0 })
  pub fits : FitsLoad v l

-- the conditions for a CREATE to make the application of an open load under this name
pub record CanCreate (v : BankView) (load : Option Loaded) (a : ApduParts) (n : List ℕ) : Type 0 where
  pub clear : first_status (create_refusals v.state.apps (option_map (open_of v.site_bytes) load) a) ≡ None
  pub loaded : Loaded
  pub is : load ≡ Some loaded
  pub full : is_full loaded ≡ true
  pub name : name_of loaded.dir ≡ Ok n
  pub fresh : lookup v.state.apps n ≡ None

-- whether the name is that of the selected application
abbrev pub has_selected : Option Selection → List ℕ → Bool
has_selected None name = false
has_selected (Some s) name = bytes_eq s.aid name

-- the conditions under which a DELETE is refused, each with its status word, in order
abbrev pub delete_causes : List (List ℕ × App) → Option Selection → ApduParts → List (ℕ × Bool)
delete_causes apps selected a =
    (0x6A86, not (p1p2 a == 0)) ∷ (0x6700, is_empty a.body) ∷ (0x6A82, is_none (lookup apps a.body)) ∷ (0x6985, has_selected selected a.body) ∷ []

-- the conditions for a DELETE to remove the application in this slot
pub record CanDelete (apps : List (List ℕ × App)) (named : ℕ → Option (List ℕ)) (selected : Option Selection) (a : ApduParts) (k : ℕ) : Type 0 where
  pub clear : first_status (delete_causes apps selected a) ≡ None
  pub slot : named k ≡ Some a.body
  pub other : has_selected selected a.body ≡ false
