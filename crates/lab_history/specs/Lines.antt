-- The lines of rules as the code has them, and those of the definition.
use Rattle.std.specs.Prelude.{◌≡◌, ℕ, suc, cond, List, [], ◌∷◌, map, bytes_eq, option_map, Option, Some, None, Result, Ok, Err, ⊤}
use Rattle.model_device.specs.Bytes.{lookup}
use Rattle.lab_app_rules.specs.model_rules.specs.Rules.{Action, Allows, Spends, Needs, OnLine, Range}
use Rattle.lab_app_rules.specs.model_rules.specs.Keeping.{Amounts, Break, ByLine, after_action, is_in_range}
use Rattle.lab_app_rules.specs.declared.rules.Always.{Always}
use Rattle.lab_app_rules.specs.declared.rules.Effect.{Effect}
use Rattle.lab_app_rules.specs.declared.rules.Effect.TheVariants as effect
use Rattle.lab_app_rules.specs.declared.rules.On.{On}
use Rattle.lab_history.specs.Amounts.{amounts_after}
use Rattle.lab_history.specs.Standings.{is_within}

-- ---- allowances

-- the names of allowances
abbrev pub names_of : Amounts → List (List ℕ)
names_of a = map (λ e. e.0) a

-- their amounts
abbrev pub amounts_of : Amounts → List ℕ
amounts_of a = map (λ e. e.1) a

-- the place of a name
abbrev pub place_of : Amounts → List ℕ → Option ℕ
place_of [] name = None
place_of (e ∷ a) name = cond (bytes_eq e.0 name) (Some 0) (option_map suc (place_of a name))

-- each name is there once
abbrev pub AreDistinct : Amounts → Type 0
AreDistinct [] = ⊤
AreDistinct (e ∷ a) = (lookup a e.0 ≡ None) × AreDistinct a

-- an effect is an action with an amount
abbrev pub DoesAs : Effect → Action → ℕ → Type 0
DoesAs (effect.Allow k) Allows n = k ≡ n
DoesAs (effect.Spend k) Spends n = k ≡ n
DoesAs (effect.Need k) Needs n = k ≡ n
DoesAs e action n = ⊥

-- an `on` line is one about an allowance, among these
pub record IsAllowanceLine (a : Amounts) (o : On) (l : OnLine) : Type 0 where
  pub line : o.line ≡ l.number
  pub does : DoesAs o.effect l.action l.amount
  pub place : place_of a l.name ≡ Some o.name

-- amounts are those of allowances with the same names; or a line is broken
abbrev pub AreAmounts : Amounts → ℕ → Option (List ℕ) → Result Amounts Break → Type 0
AreAmounts a number (Some amounts) (Ok b) = (amounts ≡ amounts_of b) × (names_of b ≡ names_of a)
AreAmounts a number None (Err b) = b ≡ ByLine number
AreAmounts a number x y = ⊥

-- What an `on` line does to amounts is what it does to allowances by the definition.
abbrev pub LineLaw : Type 0
LineLaw = (a : Amounts) (o : On) (l : OnLine) → AreDistinct a → IsAllowanceLine a o l
    → AreAmounts a l.number (amounts_after o.effect o.name (amounts_of a)) (after_action l.action l a)

-- ---- ranges

-- a range of the definition
abbrev pub range_of : Always → Range
range_of a = record { number = a.line; at = a.at; low = a.low; high = a.high }

-- Whether a static byte is in the range of a line is what the definition says of it.
abbrev pub RangeLaw : Type 0
RangeLaw = (fixed : List ℕ) (a : Always) → is_within fixed a ≡ is_in_range fixed (range_of a)
