-- The rules of one application as data: allowances and what events do to them, amounts that are summed, ranges of
-- static bytes, and that no instruction abends.
use Rattle.std.specs.Prelude.{ℕ, Bool, List, [], Option, None}
use Rattle.model_events.specs.model_device.specs.Card.{App}

-- ---- events

-- When a line applies: to an instruction whose line of a trace, without its mark, a pattern fits; to a command whose
-- bytes one fits, when it reaches the application or when it is answered with a result that another fits; and where a
-- session begins or ends.
pub data Trigger : Type 0 where
  AtTurn : (line : List ℕ) → Trigger
  AtCommand : (apdu : List ℕ) → Trigger
  AtAnswer : (apdu : List ℕ) (result : List ℕ) → Trigger
  AtSession : Trigger

-- what happens to an allowance: it is set, reduced, or has to be enough
pub data Action : Type 0 where
  Allows : Action
  Spends : Action
  Needs : Action

-- an `on` line about an allowance
pub record OnLine : Type 0 where
  pub number : ℕ
  pub trigger : Trigger
  pub action : Action
  pub name : List ℕ
  pub amount : ℕ

-- ---- sums

-- what is added to a sum: a number, or the number in n bytes from a place of the public segment on
pub data Amount : Type 0 where
  Constant : (k : ℕ) → Amount
  PublicBytes : (at : ℕ) (n : ℕ) → Amount

-- an `on turn` line about a sum: whether it adds or takes, and what
pub record SumLine : Type 0 where
  pub number : ℕ
  pub line : List ℕ
  pub adds : Bool
  pub name : List ℕ
  pub amount : Amount

-- ---- what always holds

-- a static byte is from low to high
pub record Range : Type 0 where
  pub number : ℕ
  pub at : ℕ
  pub low : ℕ
  pub high : ℕ

-- n static bytes are a number, and sums that are added (true) or taken, modulo 256 ^ n
pub record Total : Type 0 where
  pub number : ℕ
  pub at : ℕ
  pub n : ℕ
  pub constant : ℕ
  pub terms : List (Bool × List ℕ)

-- ---- the rules of a deck

-- the application that the rules speak of: the name of its unit or section, its own name, and what its first `load`
-- line creates
pub record Target : Type 0 where
  pub unit : List ℕ
  pub name : List ℕ
  pub app : App

-- The rules, each kind in the order of its lines. An allowance or a sum is a name and what it is when the application is
-- created; `abends` is the number of the first line that says `never abend`.
pub record AppRules : Type 0 where
  pub target : Option Target
  pub allowances : List (List ℕ × ℕ)
  pub sums : List (List ℕ × ℕ)
  pub ons : List OnLine
  pub moves : List SumLine
  pub abends : Option ℕ
  pub ranges : List Range
  pub totals : List Total

-- a deck without such rules
abbrev pub no_app_rules : AppRules
no_app_rules = record { target = None; allowances = []; sums = []; ons = []; moves = []; abends = None; ranges = []; totals = [] }
