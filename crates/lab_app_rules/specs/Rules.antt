-- The rules of an application, as the definition has them.
use Rattle.std.specs.Prelude.{◌≡◌, ℕ, ◌-◌, Bool, false, ◌||◌, List, [], ◌∷◌, ◌++◌, length, map, slice_get, vec_len, bytes_eq, Option, Some, None, ⊤}
use Rattle.model_rules.specs.model_device.specs.Bytes.{zeros}
use Rattle.model_rules.specs.model_device.specs.Card.{App}
use Rattle.model_rules.specs.model_events.specs.Matching.{plain}
use Rattle.model_rules.specs.Rules as rules
use Rattle.model_rules.specs.Rules.{Trigger, AtTurn, AtCommand, AtAnswer, AtSession, Action, Allows, Spends, Needs, OnLine, Range, Target, AppRules}
use Rattle.model_rules.specs.Loadable.{IsLoadable}
use Rattle.lab_app_rules.specs.declared.rules.Event.TheVariants as event
use Rattle.lab_app_rules.specs.declared.rules.Effect.{Effect}
use Rattle.lab_app_rules.specs.declared.rules.Effect.TheVariants as effect
use Rattle.lab_app_rules.specs.declared.rules.On.{On}
use Rattle.lab_app_rules.specs.declared.rules.Named.{Named}
use Rattle.lab_app_rules.specs.declared.rules.Always.{Always}
use Rattle.lab_app_rules.specs.declared.rules.Load.{Load}
use Rattle.lab_app_rules.specs.declared.rules.Rules.{Rules}

-- ---- lines

-- what a line does to an allowance; none if it is about a sum
abbrev pub deed_of : Effect → Option (Action × ℕ)
deed_of (effect.Allow k) = Some (Allows, k)
deed_of (effect.Spend k) = Some (Spends, k)
deed_of (effect.Need k) = Some (Needs, k)
deed_of (effect.Add amount) = None
deed_of (effect.Take amount) = None

-- a line has an event and the plain patterns of what is matched with it
abbrev pub IsTrigger : Trigger → On → Type 0
IsTrigger (AtTurn p) on = (on.event ≡ event.Turn) × (on.pattern.items ≡ plain p)
IsTrigger (AtCommand p) on = (on.event ≡ event.Command) × (on.pattern.items ≡ plain p)
IsTrigger (AtAnswer p q) on = (on.event ≡ event.Answer) × (on.pattern.items ≡ plain p) × (on.result.items ≡ plain q)
IsTrigger AtSession on = on.event ≡ event.Session

-- a line is one that does this, under the name of its allowance
pub record IsLine (names : List (List ℕ)) (deed : Action × ℕ) (l : OnLine) (on : On) : Type 0 where
  pub number : l.number ≡ on.line
  pub trigger : IsTrigger l.trigger on
  pub action : l.action ≡ deed.0
  pub amount : l.amount ≡ deed.1
  pub name : slice_get names on.name ≡ Some l.name

-- the first of some lines is one that does this, and others follow it; a line about a sum is none of them
abbrev pub FirstLine : Option (Action × ℕ) → List (List ℕ) → List OnLine → On → (List OnLine → Type 0) → Type 0
FirstLine None names ls on rest = rest ls
FirstLine (Some deed) names [] on rest = ⊥
FirstLine (Some deed) names (l ∷ ls) on rest = IsLine names deed l on × rest ls

-- lines are those of the definition that are about allowances
abbrev pub AreLines : List (List ℕ) → List OnLine → List On → Type 0
AreLines names [] [] = ⊤
AreLines names (l ∷ ls) [] = ⊥
AreLines names ls (on ∷ ons) = FirstLine (deed_of on.effect) names ls on (λ more. AreLines names more ons)

-- ---- all rules

-- an allowance with what it is at the creation
abbrev pub allowance_of : Named → List ℕ × ℕ
allowance_of n = (n.name.now, n.amount)

-- the name of an allowance
abbrev pub name_of : Named → List ℕ
name_of n = n.name.now

-- the range of a static byte
abbrev pub range_of : Always → Range
range_of l = record { number = l.line; at = l.at; low = l.low; high = l.high }

-- whether a name is among some
abbrev pub is_named : List ℕ → List (List ℕ) → Bool
is_named n [] = false
is_named n (m ∷ ms) = bytes_eq m n || is_named n ms

-- each name is there once
abbrev pub AreDistinct : List (List ℕ) → Type 0
AreDistinct [] = ⊤
AreDistinct (n ∷ ns) = (is_named n ns ≡ false) × AreDistinct ns

-- what a deck's first `load` line of the application creates
pub record IsCreated (app : App) (load : Load) : Type 0 where
  pub code : app.code ≡ load.code.now
  pub fixed : app.fixed ≡ load.data.now ++ zeros (load.fixed - length load.data.now)
  pub size : length app.fixed ≡ load.fixed
  pub session : app.session ≡ load.session
  pub deny : app.deny ≡ 0
  pub loadable : IsLoadable app

-- the rules are those of an application that a card can have
pub record AreRules (a : AppRules) (g : Target) (r : Rules) : Type 0 where
  pub target : a.target ≡ Some g
  pub created : IsCreated g.app r.load
  pub allowances : a.allowances ≡ map allowance_of r.allowances.items
  pub distinct : AreDistinct (map name_of r.allowances.items)
  pub ons : AreLines (map name_of r.allowances.items) a.ons r.ons.items
  pub abends : a.abends ≡ r.never
  pub ranges : a.ranges ≡ map range_of r.always.items
  pub totals : length a.totals ≡ vec_len r.balances
