-- How the event of an instruction moves what is known for sums, and where totals are asked.
use Rattle.std.specs.Prelude.{ℕ, ◌+◌, ◌-◌, nat_le, Bool, true, false, cond, not, ◌&&◌, ◌||◌, ◌==◌, List, [], ◌∷◌, bytes_eq, Option, Some, None}
use Rattle.model_prove.specs.model_machine.specs.Frame.{public_base, public_end}
use Rattle.model_prove.specs.model_events.specs.Matching.{fits}
use Rattle.model_prove.specs.model_rules.specs.Rules.{Amount, Constant, PublicBytes, SumLine, Total}
use Rattle.model_prove.specs.Digits.{same}
use Rattle.model_sums.specs.Forms.{Form, number}
use Rattle.model_sums.specs.Origins.{Origins, origins_from, form_of}
use Rattle.model_sums.specs.Sums.{Sums}
use Rattle.model_sums.specs.Writes.{plus_if, negative_if}

-- the number of public bytes
abbrev pub public_size : ℕ
public_size = public_end - public_base

-- the number that an amount is, by the origins before the instruction, if it is known
abbrev pub form_of_amount : Origins → Amount → Option Form
form_of_amount o (Constant k) = Some (number k)
form_of_amount o (PublicBytes at n) = cond (nat_le (at + n) public_size) (form_of (origins_from o (public_base + at) n)) None

-- by how much a total is off after a sum that one of its terms names became more by a form; if the term adds it, the
-- block is that much less than what it is to be
abbrev pub off_after_term : ℕ → Bool → Option Form → Option Form → Option Form
off_after_term n true by off = plus_if off (negative_if n by)
off_after_term n false by off = plus_if off by

-- after a line about a sum, by the terms of the total
abbrev pub off_after_line : ℕ → SumLine → Option Form → List (Bool × List ℕ) → Option Form → Option Form
off_after_line n l by [] off = off
off_after_line n l by (t ∷ ts) off =
    let next = cond (bytes_eq t.1 l.name) (off_after_term n (same t.0 l.adds) by off) off in
    off_after_line n l by ts next

-- by how much each total is
abbrev pub offs_after_line : SumLine → Option Form → List Total → List (Option Form) → List (Option Form)
offs_after_line l by [] os = []
offs_after_line l by (t ∷ ts) [] = []
offs_after_line l by (t ∷ ts) (o ∷ os) = off_after_line t.n l by t.terms o ∷ offs_after_line l by ts os

-- By how much each total is off after the event of an instruction with this line, with the origins before it.
abbrev pub offs_after_event : List Total → List SumLine → List ℕ → Origins → List (Option Form) → List (Option Form)
offs_after_event ts [] line o os = os
offs_after_event ts (l ∷ ls) line o os =
    let next = cond (fits l.line line) (offs_after_line l (form_of_amount o l.amount) ts os) os in
    offs_after_event ts ls line o next

-- ---- protection

-- whether a mode of protection keeps what waits
abbrev pub is_commit : ℕ → Bool
is_commit mode = mode == 1 || mode == 3

-- whether the event of an instruction is dropped with what waits
abbrev pub drops : Bool → Option ℕ → Bool
drops true (Some mode) = not (is_commit mode)
drops protected mode = false

-- whether what power leaves changes with it, so that the totals are asked: without protection, and by a commit
abbrev pub asks : Bool → Option ℕ → Bool
asks false mode = true
asks true (Some mode) = is_commit mode
asks true None = false

-- what is known after an instruction's event, from what is known after its row
abbrev pub counted : Bool → List Total → List SumLine → List ℕ → Origins → Sums → Sums
counted true ts ls line o u = u
counted false ts ls line o u = record u { offs = offs_after_event ts ls line o u.offs }
