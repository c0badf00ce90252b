-- Sums, the lines about them and the blocks that they bind, as the definition has them.
use Rattle.std.specs.Prelude.{◌≡◌, ℕ, Bool, true, false, not, List, [], ◌∷◌, map, slice_get, Option, Some, None, ⊤}
use Rattle.model_rules.specs.model_events.specs.Matching.{plain}
use Rattle.model_rules.specs.Rules.{AppRules, SumLine, Total}
use Rattle.lab_app_rules.specs.declared.rules.Amount.{Amount}
use Rattle.lab_app_rules.specs.declared.rules.Balance.{Balance}
use Rattle.lab_app_rules.specs.declared.rules.Effect.{Effect}
use Rattle.lab_app_rules.specs.declared.rules.Effect.TheVariants as effect
use Rattle.lab_app_rules.specs.declared.rules.Event.TheVariants as event
use Rattle.lab_app_rules.specs.declared.rules.On.{On}
use Rattle.lab_app_rules.specs.declared.rules.Rules.{Rules}
use Rattle.lab_app_rules.specs.declared.rules.SignedSum.{SignedSum}
use Rattle.lab_app_rules.specs.Rules.{allowance_of, name_of}
use Rattle.std.specs.Prelude.{◌≡◌, ◌-◌, ℕ, Bool, List, [], ◌∷◌, Option, Some, None}
use Rattle.model_rules.specs.Rules as rules
use Rattle.lab_app_rules.specs.declared.rules.Amount.TheVariants as amount

-- an amount of a sum, as the definition has it: places count from the public segment's beginning
abbrev pub amount_value : Amount → rules.Amount
amount_value (amount.Number k) = rules.Constant k
amount_value (amount.Public at n) = rules.PublicBytes (at - 49152) n

-- ---- lines

-- what a line does to a sum: whether it adds or takes, and the amount; none if it is about an allowance
abbrev pub move_of : Effect → Option (Bool × Amount)
move_of (effect.Add k) = Some (true, k)
move_of (effect.Take k) = Some (false, k)
move_of (effect.Allow k) = None
move_of (effect.Spend k) = None
move_of (effect.Need k) = None

-- a line is one that does this, under the name of its sum
pub record IsSumRule (names : List (List ℕ)) (move : Bool × Amount) (l : SumLine) (on : On) : Type 0 where
  pub number : l.number ≡ on.line
  pub turn : on.event ≡ event.Turn
  pub pattern : on.pattern.items ≡ plain l.line
  pub adds : l.adds ≡ move.0
  pub amount : l.amount ≡ amount_value move.1
  pub name : slice_get names on.name ≡ Some l.name

-- the first of some lines is one that does this, and others follow it; a line about an allowance is none of them
abbrev pub FirstSumLine : Option (Bool × Amount) → List (List ℕ) → List SumLine → On → (List SumLine → Type 0) → Type 0
FirstSumLine None names ls on rest = rest ls
FirstSumLine (Some move) names [] on rest = ⊥
FirstSumLine (Some move) names (l ∷ ls) on rest = IsSumRule names move l on × rest ls

-- lines are those of the definition that are about sums
abbrev pub AreSumLines : List (List ℕ) → List SumLine → List On → Type 0
AreSumLines names [] [] = ⊤
AreSumLines names (l ∷ ls) [] = ⊥
AreSumLines names ls (on ∷ ons) = FirstSumLine (move_of on.effect) names ls on (λ more. AreSumLines names more ons)

-- ---- blocks

-- the sums that a block is bound to, each added or taken
abbrev pub AreTerms : List (List ℕ) → List (Bool × List ℕ) → List SignedSum → Type 0
AreTerms names [] [] = ⊤
AreTerms names (t ∷ ts) (s ∷ ss) = (t.0 ≡ not s.minus) × (slice_get names s.sum ≡ Some t.1) × AreTerms names ts ss
AreTerms names [] (s ∷ ss) = ⊥
AreTerms names (t ∷ ts) [] = ⊥

-- a block of static bytes is to be a constant and some sums
pub record IsTotal (names : List (List ℕ)) (t : Total) (b : Balance) : Type 0 where
  pub number : t.number ≡ b.line
  pub at : t.at ≡ b.at
  pub n : t.n ≡ b.n
  pub constant : t.constant ≡ b.constant
  pub terms : AreTerms names t.terms b.sums.items

-- the blocks that sums bind are those of the definition
abbrev pub AreTotals : List (List ℕ) → List Total → List Balance → Type 0
AreTotals names [] [] = ⊤
AreTotals names (t ∷ ts) (b ∷ bs) = IsTotal names t b × AreTotals names ts bs
AreTotals names [] (b ∷ bs) = ⊥
AreTotals names (t ∷ ts) [] = ⊥

-- ---- all rules

-- the sums of rules with what binds them, each kind in the order of its lines
pub record AreSums (a : AppRules) (r : Rules) : Type 0 where
  pub sums : a.sums ≡ map allowance_of r.sums.items
  pub lines : AreSumLines (map name_of r.sums.items) a.moves r.ons.items
  pub totals : AreTotals (map name_of r.sums.items) a.totals r.balances.items
