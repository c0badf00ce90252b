-- `always` lines as the code reads them.
use Rattle.std.specs.Prelude.{◌≡◌, ◌<◌, ◌≤◌, ◌-◌, ℕ, suc, Bool, not, List, [], ◌∷◌, map, Some, Ok, true, false, ⊤}
use Rattle.model_rule_text.specs.model_play.specs.DeckGrammar.{number_field}
use Rattle.model_rule_text.specs.model_play.specs.declared.deck.DeckCause.TheVariants.{UnknownName}
use Rattle.mc_text.specs.model_text.specs.Assembly.{natural}
use Rattle.model_rule_text.specs.Reading.{are_names, are_sums, ends_of, terms_of}
use Rattle.lab_app_rules.specs.declared.rules.Always.{Always}
use Rattle.lab_app_rules.specs.declared.rules.Balance.{Balance}
use Rattle.lab_app_rules.specs.Rules.{allowance_of, name_of}
use Rattle.prove_rules.specs.declared.always.SignedName.{SignedName}
use Rattle.prove_rules.specs.declared.always.TotalForm.{TotalForm}
use Rattle.prove_rules.specs.declared.fault.Fault.{Fault}
use Rattle.prove_rules.specs.declared.fault.Fault.TheVariants as fault
use Rattle.prove_rules.specs.declared.fault.RuleCause.TheVariants as cause
use Rattle.prove_rules.specs.declared.load.Found.{Found}
use Rattle.prove_rules.specs.declared.partial.Partial.{Partial}
use Rattle.lab_app_rules.specs.Sums.{AreTerms}

-- a term of a total: whether it is added, and its name
abbrev pub term_of : SignedName → Bool × List ℕ
term_of s = (not s.minus, s.name.now)

-- a static byte and its range, of the text in the brackets and of the fields after it
pub record IsRangeRead (p : Partial) (at : List ℕ) (fs : List (List ℕ)) (w : Always) : Type 0 where
  pub low : List ℕ
  pub high : List ℕ
  pub parts : fs ≡ low ∷ high ∷ []
  pub place : natural at ≡ Some w.at
  pub lowest : natural low ≡ Some w.low
  pub highest : natural high ≡ Some w.high
  pub order : w.low ≤ w.high
  pub byte : w.high ≤ 255
  pub found : Found
  pub loaded : p.load ≡ Some found
  pub within : w.at < found.load.fixed

-- a name of the terms is no sum, or there was no memory for the sums
abbrev pub AreNoSums : Bool → Fault → Type 0
AreNoSums are (fault.Cause c) = (c ≡ cause.Deck UnknownName) × (are ≡ false)
AreNoSums are fault.NoMemory = ⊤

-- the fields of a total, of the text in the brackets and of the fields after the sign
pub record IsTotalForm (range : List ℕ) (fs : List (List ℕ)) (f : TotalForm) : Type 0 where
  pub rest : List (List ℕ)
  pub parts : fs ≡ f.constant.now ∷ rest
  pub ends : ends_of range ≡ Ok (f.from.now, f.to.now)
  pub terms : terms_of rest ≡ Ok (map term_of f.names.items)

-- a total, of its fields
pub record IsTotalRead (p : Partial) (f : TotalForm) (b : Balance) : Type 0 where
  pub first : ℕ
  pub last : ℕ
  pub starts : natural f.from.now ≡ Some first
  pub stops : natural f.to.now ≡ Some last
  pub k : ℕ
  pub number : number_field 0 4294967295 f.constant.now ≡ Ok k
  pub named : are_names (map term_of f.names.items) ≡ Ok (map term_of f.names.items)
  pub sums : are_sums (map allowance_of p.sums.items) (map term_of f.names.items) ≡ true
  pub order : first ≤ last
  pub found : Found
  pub loaded : p.load ≡ Some found
  pub within : last < found.load.fixed
  pub at : first ≡ b.at
  pub size : suc last - first ≡ b.n
  pub value : k ≡ b.constant
  pub bound : AreTerms (map name_of p.sums.items) (map term_of f.names.items) b.sums.items
