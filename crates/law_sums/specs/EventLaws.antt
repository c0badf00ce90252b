-- Laws of totals: an event moves what is known as it moves the sums, what is not off is a total that holds, and so is
-- what is known as a frame begins.
use Rattle.std.specs.Prelude.{◌≡◌, ℕ, ◌+◌, ◌≤◌, Bool, true, false, ◌||◌, List, [], ◌∷◌, length, slice_index, bytes_eq, Option}
use Rattle.std.specs.List.{AllByRecursion}
use Rattle.model_sums.specs.model_machine.specs.Frame.{public_base}
use Rattle.model_sums.specs.model_rules.specs.Rules.{Total, SumLine}
use Rattle.model_sums.specs.model_rules.specs.Keeping.{Sum, after_moves}
use Rattle.model_sums.specs.model_prove.specs.Facts.{Memory}
use Rattle.model_sums.specs.Forms.{Form}
use Rattle.model_sums.specs.Origins.{Origins, origin_at}
use Rattle.model_sums.specs.Sums.{are_even, first_known}
use Rattle.model_sums.specs.Says.{IsFrom, OffsHold, Holds, TotalsHold}
use Rattle.model_sums.specs.Events.{public_size, offs_after_event}

-- whether there is a sum of a name
abbrev pub has_sum : List Sum → List ℕ → Bool
has_sum [] name = false
has_sum (s ∷ ss) name = bytes_eq s.name name || has_sum ss name

-- the public bytes come from where origins say
abbrev pub PublicHolds : Origins → List ℕ → List ℕ → Type 0
PublicHolds o first public = (p : ℕ) → IsFrom first (origin_at o (public_base + p)) (slice_index public p)

-- by how much totals are off after an event is so of the sums after it
abbrev pub EventLaw : Type 0
EventLaw =
    (ts : List Total) (ls : List SumLine) (line public first : List ℕ) (m : Memory) (sums : List Sum) (o : Origins)
    → AllByRecursion (λ l. has_sum sums l.name ≡ true) ls → PublicHolds o first public → public_size ≤ length public
    → (os : List (Option Form)) → OffsHold first m sums ts os → OffsHold first m (after_moves ls line public sums) ts (offs_after_event ts ls line o os)

-- totals that are not off hold
abbrev pub EvenLaw : Type 0
EvenLaw = (ts : List Total) (first : List ℕ) (m : Memory) (sums : List Sum) → (os : List (Option Form)) → are_even ts os ≡ true → OffsHold first m sums ts os → TotalsHold m sums ts

-- what is known as a frame begins holds if each total does
abbrev pub StartLaw : Type 0
StartLaw =
    (ts : List Total) (m : Memory) (sums : List Sum) (public : List ℕ) → ((p : ℕ) → m (public_base + p) ≡ slice_index public p) → TotalsHold m sums ts
    → Holds ts (first_known ts) public m sums
