-- The roster of a card, which is its applications but for their static bytes, and the static bytes beside it.
use Rattle.std.specs.Prelude.{ℕ, Bool, List, [], ◌∷◌, ◌++◌, length, map}
use Rattle.mc_words.specs.model_device.specs.Card.{App}
use Rattle.lab_branch.specs.declared.roster.Resident.{Resident}
use Rattle.lab_branch.specs.declared.roster.Roster.{Roster}
use Rattle.lab_branch.specs.contracts.roster.ResidentPartialEq.TheImpl as resident
use Rattle.lab_branch.specs.contracts.roster.RosterPartialEq.TheImpl as roster

-- an application but for its static bytes: `fixed` is their number
pub record ResidentValue : Type 0 where
  pub name : List ℕ
  pub place : ℕ
  pub session : ℕ
  pub deny : ℕ
  pub code : List ℕ
  pub fixed : ℕ
  pub dir : List ℕ
  pub fci : List ℕ

-- a resident of the code, without its memory
abbrev pub resident_value : Resident → ResidentValue
resident_value r =
    record {
      name = r.name.items;
      place = r.place;
      session = r.session;
      deny = r.deny;
      code = r.code.items;
      fixed = r.fixed;
      dir = r.dir.items;
      fci = r.fci.items;
    }

-- a roster of the code, without its memory
abbrev pub roster_value : Roster → List ResidentValue
roster_value r = map resident_value r.residents.items

-- whether two residents are equal, by the test of the code
abbrev pub resident_eq : Resident → Resident → Bool
resident_eq = (resident.ghosts).eq

-- whether two rosters are equal, by the test of the code
abbrev pub roster_eq : Roster → Roster → Bool
roster_eq = (roster.ghosts).eq

-- an application but for its static bytes
abbrev pub resident_of : List ℕ × App → ResidentValue
resident_of e =
    record {
      name = e.0;
      place = (e.1).place;
      session = (e.1).session;
      deny = (e.1).deny;
      code = (e.1).code;
      fixed = length (e.1).fixed;
      dir = (e.1).dir;
      fci = (e.1).fci;
    }

-- the roster of applications
abbrev pub roster_of : List (List ℕ × App) → List ResidentValue
roster_of apps = map resident_of apps

-- the static bytes of all applications, one after the other
abbrev pub statics_of : List (List ℕ × App) → List ℕ
statics_of [] = []
statics_of (e ∷ es) = (e.1).fixed ++ statics_of es
