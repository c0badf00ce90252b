-- Law of a turn: what is known after an instruction and its event is so of the sums that then stand, and if totals were
-- asked and are not off, each holds of the sums as power would leave them.
use Rattle.std.specs.Prelude.{◌≡◌, ℕ, ◌≤◌, Bool, true, false, cond, List, length, Option, Some, None, ⊤}
use Rattle.std.specs.List.{AllByRecursion}
use Rattle.model_sums.specs.model_events.specs.Deeds.{Deed}
use Rattle.model_sums.specs.model_rules.specs.Rules.{AppRules}
use Rattle.model_sums.specs.model_rules.specs.Keeping.{Sum, Standing, line_of_deed, mode_of, after_deed}
use Rattle.model_sums.specs.model_prove.specs.Facts.{Memory}
use Rattle.model_sums.specs.Origins.{Origins}
use Rattle.model_sums.specs.Sums.{Sums, are_even}
use Rattle.model_sums.specs.Says.{OffsHold, TotalsHold, read_sums}
use Rattle.model_sums.specs.Events.{public_size, drops, asks, counted}
use Rattle.law_sums.specs.EventLaws.{has_sum, PublicHolds}

-- without a mode the protection stays as it is
abbrev pub StaysProtected : Option ℕ → Bool → Bool → Type 0
StaysProtected None p q = q ≡ p
StaysProtected (Some mode) p q = ⊤

-- the sums that the application reads after the row and before its event, which a drop makes those that power would
-- leave
abbrev pub row_sums : Bool → Option ℕ → Standing → List Sum
row_sums p mode s = cond (drops p mode) s.kept (read_sums p s)

-- after a turn, of the sums before it and after it, and of the protection after it
pub record TurnHolds (r : AppRules) (p q : Bool) (mode : Option ℕ) (first : List ℕ) (k : Memory) (v : Sums) (s after : Standing) : Type 0 where
  pub offs : OffsHold first k (read_sums q after) r.totals v.offs
  pub asked : asks p mode ≡ true → are_even r.totals v.offs ≡ true → TotalsHold k after.kept r.totals
  pub kept : asks p mode ≡ false → after.kept ≡ s.kept

-- of each deed of an application, before which the origins hold
abbrev pub TurnLaw : Type 0
TurnLaw =
    (r : AppRules) (d : Deed) (s : Standing) (q : Bool) (u : Sums) (o : Origins) (first : List ℕ) (k : Memory)
    → AllByRecursion (λ l. has_sum (read_sums d.frame.protected s) l.name ≡ true) r.moves → PublicHolds o first d.public → public_size ≤ length d.public
    → StaysProtected (mode_of d.ins) d.frame.protected q → OffsHold first k (row_sums d.frame.protected (mode_of d.ins) s) r.totals u.offs
    → TurnHolds r d.frame.protected q (mode_of d.ins) first k
    (counted (drops d.frame.protected (mode_of d.ins)) r.totals r.moves (line_of_deed d) o u) s (after_deed r d.frame.protected d s)
