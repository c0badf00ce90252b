-- The rules of the lines so far, as the code has them, and those of the definition that they are.
use Rattle.std.specs.Prelude.{◌≡◌, ℕ, suc, cond, List, [], ◌∷◌, ◌++◌, map, bytes_eq, is_none, option_map, Option, Some, None, Result, Ok, Err, ⊤}
use Rattle.mc_words.specs.model_device.specs.Bytes.{lookup}
use Rattle.model_rule_text.specs.model_play.specs.RuleLines.{name_and_amount}
use Rattle.mc_text.specs.model_text.specs.Text.{◌>>=◌}
use Rattle.model_rule_text.specs.model_play.specs.declared.deck.DeckCause.TheVariants.{NameTwice}
use Rattle.model_rule_text.specs.Reading.{of_deck, unless}
use Rattle.prove_facts.specs.model_rules.specs.Rules.{AppRules, Target}
use Rattle.lab_app_rules.specs.declared.rules.Always.{Always}
use Rattle.lab_app_rules.specs.declared.rules.Balance.{Balance}
use Rattle.lab_app_rules.specs.declared.rules.Named.{Named}
use Rattle.lab_app_rules.specs.declared.rules.On.{On}
use Rattle.lab_app_rules.specs.declared.rules.Rules.{Rules}
use Rattle.lab_app_rules.specs.Rules.{allowance_of, name_of, range_of, AreDistinct, AreLines, IsCreated}
use Rattle.prove_rules.specs.declared.fault.Fault.{Fault}
use Rattle.prove_rules.specs.declared.load.Found.{Found}
use Rattle.prove_rules.specs.declared.partial.Partial.{Partial}
use Rattle.prove_rules.specs.Refused.{Faulty}
use Rattle.lab_app_rules.specs.Sums.{AreSumLines, AreTotals}

-- the place of a name among allowances or sums
abbrev pub place_of : List (List ℕ × ℕ) → List ℕ → Option ℕ
place_of [] name = None
place_of (a ∷ held) name = cond (bytes_eq a.0 name) (Some 0) (option_map suc (place_of held name))

-- an application is that of a `load` line, if one was named
abbrev pub IsTarget : Option Target → Option Found → Type 0
IsTarget None None = ⊤
IsTarget (Some g) (Some found) = IsCreated g.app found.load × (g.name ≡ found.aid)
IsTarget None (Some found) = ⊥
IsTarget (Some g) None = ⊥

-- the lists of the code are those of the definition
pub record AreLists (a : AppRules) (load : Option Found) (held added : List Named) (lines : List On) (always : List Always) (blocks : List Balance) (never : Option ℕ) : Type 0 where
  pub target : IsTarget a.target load
  pub allowances : a.allowances ≡ map allowance_of held
  pub distinct : AreDistinct (map name_of held)
  pub sums : a.sums ≡ map allowance_of added
  pub ons : AreLines (map name_of held) a.ons lines
  pub ranges : a.ranges ≡ map range_of always
  pub moves : AreSumLines (map name_of added) a.moves lines
  pub totals : AreTotals (map name_of added) a.totals blocks
  pub abends : a.abends ≡ never

-- the rules so far are those of the definition
abbrev pub ArePart : AppRules → Partial → Type 0
ArePart a p = AreLists a p.load p.allowances.items p.sums.items p.ons.items p.always.items p.balances.items p.never

-- the lists of the code are those of rules that were read
abbrev pub AreListsRead : {E : Type 0} → Result AppRules E → Option Found → List Named → List Named → List On → List Always → List Balance → Option ℕ → Type 0
AreListsRead (Ok a) load held added lines always blocks never = AreLists a load held added lines always blocks never
AreListsRead (Err e) load held added lines always blocks never = ⊥

-- the rules so far are those that were read
abbrev pub ArePartRead : {E : Type 0} → Result AppRules E → Partial → Type 0
ArePartRead r p = AreListsRead r p.load p.allowances.items p.sums.items p.ons.items p.always.items p.balances.items p.never

-- a list has one more allowance or sum, of two fields, whose name is new
pub record IsMoreNamed (old : List Named) (fs : List (List ℕ)) (new : List Named) : Type 0 where
  pub one : Named
  pub named : name_and_amount fs ≡ Ok (allowance_of one)
  pub fresh : place_of (map allowance_of old) (name_of one) ≡ None
  pub more : new ≡ old ++ one ∷ []

-- two fields are no name and amount, or their name is in a list
abbrev pub HasFault : List Named → List (List ℕ) → Fault → Type 0
HasFault old fs e = Faulty (of_deck (name_and_amount fs) >>= λ a. unless (is_none (lookup (map allowance_of old) a.0)) NameTwice a) e

-- rules have the application and the lists of those of all lines, and a name is that of the application
pub record IsFinished (p : Partial) (r : Rules) (aid : List ℕ) : Type 0 where
  pub load : p.load ≡ Some (record { aid = aid; load = r.load })
  pub allowances : r.allowances ≡ p.allowances
  pub sums : r.sums ≡ p.sums
  pub ons : r.ons ≡ p.ons
  pub always : r.always ≡ p.always
  pub balances : r.balances ≡ p.balances
  pub never : r.never ≡ p.never
