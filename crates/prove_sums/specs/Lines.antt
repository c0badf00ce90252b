-- What a line about a sum does to a total, by the numbers of sums that the code has.
use Rattle.std.specs.Prelude.{◌≡◌, ℕ, Bool, not, cond, List, bytes_eq, slice_get, Option, Some, None}
use Rattle.lab_app_rules.specs.model_events.specs.Matching.{fits}
use Rattle.prove_facts.specs.model_prove.specs.Digits.{same}
use Rattle.prove_facts.specs.model_rules.specs.Rules.{SumLine, Total}
use Rattle.prove_forms.specs.model_sums.specs.Events.{form_of_amount, off_after_term, offs_after_line}
use Rattle.prove_forms.specs.model_sums.specs.Forms as forms
use Rattle.prove_forms.specs.model_sums.specs.Origins.{Origins}
use Rattle.lab_app_rules.specs.declared.rules.Amount.{Amount}
use Rattle.lab_app_rules.specs.declared.rules.On.{On}
use Rattle.lab_app_rules.specs.declared.rules.SignedSum.{SignedSum}
use Rattle.prove_forms.specs.Forms.{OptionalIs}
use Rattle.lab_app_rules.specs.Sums.{IsSumRule, move_of}
use Rattle.prove_sums.specs.declared.events.Move.{Move}

-- a term of a total is this
pub record IsTerm (names : List (List ℕ)) (t : Bool × List ℕ) (s : SignedSum) : Type 0 where
  pub adds : t.0 ≡ not s.minus
  pub name : slice_get names s.sum ≡ Some t.1

-- a line moves a sum by a form, if that is known
pub record IsMove (names : List (List ℕ)) (l : SumLine) (g : Option forms.Form) (m : Move) : Type 0 where
  pub adds : l.adds ≡ m.adds
  pub name : slice_get names m.name ≡ Some l.name
  pub by : OptionalIs m.by g

-- by how much a total is off after a line, by one of its terms
abbrev pub off_by : ℕ → SumLine → Option forms.Form → Bool × List ℕ → Option forms.Form → Option forms.Form
off_by n l g t f = cond (bytes_eq t.1 l.name) (off_after_term n (same t.0 l.adds) g f) f

-- a line is one about a sum, or none
abbrev pub IsLineOf : List (List ℕ) → Option SumLine → On → Type 0
IsLineOf names None on = move_of on.effect ≡ None
IsLineOf names (Some l) on = (m : Bool × Amount) × (move_of on.effect ≡ Some m) × IsSumRule names m l on

-- by how much totals are off after a line, if it is about a sum and fits
abbrev pub offs_by : List Total → Option SumLine → List ℕ → Origins → List (Option forms.Form) → List (Option forms.Form)
offs_by ts None line o fs = fs
offs_by ts (Some l) line o fs = cond (fits l.line line) (offs_after_line l (form_of_amount o l.amount) ts fs) fs
