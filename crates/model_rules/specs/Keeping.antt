-- What a history breaks: allowances and sums along the events of an application, and what always holds of its static
-- bytes.
use Rattle.std.specs.Prelude.{ℕ, ◌+◌, ◌-◌, ◌%◌, ◌^◌, Bool, true, false, cond, not, ◌&&◌, ◌||◌, nat_le, ◌==◌, List, [], ◌∷◌, take, drop, map, bytes_eq, is_ok, slice_index, Option, Some, None, Result, Ok, Err}
use Rattle.model_events.specs.model_machine.specs.declared.instruction.Ins.{Ins}
use Rattle.model_events.specs.model_machine.specs.declared.instruction.Ins.TheVariants as ins
use Rattle.model_events.specs.model_device.specs.Bytes.{num}
use Rattle.model_events.specs.model_text.specs.Text.{◌>>=◌}
use Rattle.model_events.specs.model_text.specs.Listing.{hex_text}
use Rattle.model_events.specs.model_machine.specs.Primitives.{Primitive, SetProtection, primitive}
use Rattle.model_events.specs.model_text.specs.TurnText.{outcome_text}
use Rattle.model_events.specs.Deeds.{Deed}
use Rattle.model_events.specs.Matching.{fits}
use Rattle.model_events.specs.Amounts.{turn_text, amount_of, with_amount}
use Rattle.model_rules.specs.Rules.{Trigger, AtTurn, AtCommand, AtAnswer, AtSession, Action, Allows, Spends, Needs, OnLine, Amount, Constant, PublicBytes, SumLine, Range, Total, AppRules}
use Rattle.model_rules.specs.Happenings.{Event, Did, Failed, Commanded, Answers, Session, History}

-- ---- occasions

-- what `on` lines are matched with: an instruction's line of a trace without its mark, the bytes of a command, and a
-- result, in hexadecimal or as a transcript writes them
pub data Occasion : Type 0 where
  OnTurn : (line : List ℕ) → Occasion
  OnCommand : (apdu : List ℕ) → Occasion
  OnAnswer : (apdu : List ℕ) (result : List ℕ) → Occasion
  OnSession : Occasion

-- whether a line applies on an occasion
abbrev pub applies : Trigger → Occasion → Bool
applies (AtTurn p) (OnTurn line) = fits p line
applies (AtCommand p) (OnCommand apdu) = fits p apdu
applies (AtAnswer p q) (OnAnswer apdu result) = fits p apdu && fits q result
applies AtSession OnSession = true
applies trigger occasion = false

-- the line of an instruction that was done, from what a trace shows of it
abbrev pub line_of : ℕ → ℕ → Ins → ℕ → Bool → Bool → List ℕ
line_of depth at i dt c z = turn_text (record { depth = depth; at = at; ins = Some i; dt = dt; c = c; z = z; end = None; wrote = None })

-- the line of a deed
abbrev pub line_of_deed : Deed → List ℕ
line_of_deed d = line_of d.depth d.frame.at d.ins d.effect.frame.dt d.effect.frame.c d.effect.frame.z

-- ---- allowances

-- what is broken: an `on` line, by its number, or that nothing abends
pub data Break : Type 0 where
  ByLine : (number : ℕ) → Break
  ByAbend : (number : ℕ) → Break

-- names with numbers
abbrev pub Amounts : Type 0
Amounts = List (List ℕ × ℕ)

-- the allowances if there is enough, else the line is broken
abbrev pub if_enough : Bool → ℕ → Amounts → Result Amounts Break
if_enough true number a = Ok a
if_enough false number a = Err (ByLine number)

-- the allowances after an action
abbrev pub after_action : Action → OnLine → Amounts → Result Amounts Break
after_action Allows l a = Ok (with_amount l.name l.amount a)
after_action Spends l a = if_enough (nat_le l.amount (amount_of a l.name)) l.number (with_amount l.name (amount_of a l.name - l.amount) a)
after_action Needs l a = if_enough (nat_le l.amount (amount_of a l.name)) l.number a

-- the allowances after a line, if it applies
abbrev pub after_line : Bool → OnLine → Amounts → Result Amounts Break
after_line true l a = after_action l.action l a
after_line false l a = Ok a

-- the allowances after the lines that a test picks, in their order
abbrev pub after_lines : (OnLine → Bool) → List OnLine → Amounts → Result Amounts Break
after_lines test [] a = Ok a
after_lines test (l ∷ ls) a = after_line (test l) l a >>= λ b. after_lines test ls b

-- the allowances after an occasion
abbrev pub after_occasion : List OnLine → Occasion → Amounts → Result Amounts Break
after_occasion ls o a = after_lines (λ l. applies l.trigger o) ls a

-- ---- sums

-- A sum as what was added and what was taken, since its numbers are compared modulo 256 ^ n.
pub record Sum : Type 0 where
  pub name : List ℕ
  pub added : ℕ
  pub taken : ℕ

-- the number that an amount is, by the public segment before the instruction
abbrev pub amount_in : List ℕ → Amount → ℕ
amount_in public (Constant k) = k
amount_in public (PublicBytes at n) = num (take n (drop at public))

-- a sum after it was moved
abbrev pub moved_sum : Bool → ℕ → Sum → Sum
moved_sum true k s = record s { added = s.added + k }
moved_sum false k s = record s { taken = s.taken + k }

-- the sums after a line about one
abbrev pub after_sum_line : SumLine → List ℕ → List Sum → List Sum
after_sum_line l public sums = map (λ s. cond (bytes_eq s.name l.name) (moved_sum l.adds (amount_in public l.amount) s) s) sums

-- the sums after an instruction with this line and this public segment before it
abbrev pub after_moves : List SumLine → List ℕ → List ℕ → List Sum → List Sum
after_moves [] line public sums = sums
after_moves (l ∷ ls) line public sums = after_moves ls line public (cond (fits l.line line) (after_sum_line l public sums) sums)

-- what an instruction does to what waits: nothing, or the primitive of protection with its mode
abbrev pub mode_of_primitive : Option Primitive → ℕ → Option ℕ
mode_of_primitive (Some SetProtection) mode = Some mode
mode_of_primitive p mode = None

-- the mode of an instruction that changes the protection
abbrev pub mode_of : Ins → Option ℕ
mode_of (ins.Prim set number args) = mode_of_primitive (primitive set number) (slice_index args 0)
mode_of i = None

-- ---- along a history

-- the allowances, the sums as power would leave them, and as the application has them, with what waits
pub record Standing : Type 0 where
  pub allowances : Amounts
  pub kept : List Sum
  pub waiting : List Sum

-- the sums of a new application
abbrev pub first_sums : Amounts → List Sum
first_sums sums = map (λ s. record { name = s.0; added = s.1; taken = 0 }) sums

-- what stands when the application is created
abbrev pub first_standing : AppRules → Standing
first_standing r = record { allowances = r.allowances; kept = first_sums r.sums; waiting = first_sums r.sums }

-- the sums after an instruction under protection, by its mode: a commit keeps what waits, with its own event; 0 and 2
-- drop it
abbrev pub protected_sums : Option ℕ → List Sum → Standing → Standing
protected_sums None sums s = record s { waiting = sums }
protected_sums (Some mode) sums s = cond (mode == 1 || mode == 3) (record s { kept = sums; waiting = sums }) (record s { waiting = s.kept })

-- the sums after an instruction: without protection its event is kept with its write
abbrev pub after_deed : AppRules → Bool → Deed → Standing → Standing
after_deed r false d s =
    let sums = after_moves r.moves (line_of_deed d) d.public s.kept in
    record s { kept = sums; waiting = sums }
after_deed r true d s = protected_sums (mode_of d.ins) (after_moves r.moves (line_of_deed d) d.public s.waiting) s

-- what stands with other allowances
abbrev pub with_allowances : Standing → Amounts → Result Standing Break
with_allowances s a = Ok (record s { allowances = a })

-- an abend is broken where a rule says that nothing abends
abbrev pub after_abend : Option ℕ → Standing → Result Standing Break
after_abend None s = Ok s
after_abend (Some number) s = Err (ByAbend number)

-- what stands after an event, or what it breaks
abbrev pub after_event : AppRules → Event → Standing → Result Standing Break
after_event r (Did d) s = after_occasion r.ons (OnTurn (line_of_deed d)) s.allowances >>= with_allowances (after_deed r d.frame.protected d s)
after_event r (Failed at cause) s = after_abend r.abends s
after_event r (Commanded bytes) s = after_occasion r.ons (OnCommand (hex_text bytes)) s.allowances >>= with_allowances s
after_event r (Answers bytes o) s = after_occasion r.ons (OnAnswer (hex_text bytes) (outcome_text o)) s.allowances >>= with_allowances s
after_event r Session s = after_occasion r.ons OnSession s.allowances >>= with_allowances s

-- What stands after a history, or the first thing that it breaks.
abbrev pub standing_after : AppRules → History → Result Standing Break
standing_after r [] = Ok (first_standing r)
standing_after r (e ∷ h) = standing_after r h >>= after_event r e

-- whether a history breaks a rule
abbrev pub is_broken : AppRules → History → Bool
is_broken r h = not (is_ok (standing_after r h))

-- ---- what always holds

-- whether a static byte is in its range
abbrev pub is_in_range : List ℕ → Range → Bool
is_in_range fixed r = nat_le r.low (slice_index fixed r.at) && nat_le (slice_index fixed r.at) r.high

-- whether all ranges hold
abbrev pub are_in_ranges : List ℕ → List Range → Bool
are_in_ranges fixed [] = true
are_in_ranges fixed (r ∷ rs) = is_in_range fixed r && are_in_ranges fixed rs

-- what was added to the sums under a name
abbrev pub added_to : List Sum → List ℕ → ℕ
added_to [] name = 0
added_to (s ∷ ss) name = cond (bytes_eq s.name name) s.added (added_to ss name)

-- what was taken from the sums under a name
abbrev pub taken_from : List Sum → List ℕ → ℕ
taken_from [] name = 0
taken_from (s ∷ ss) name = cond (bytes_eq s.name name) s.taken (taken_from ss name)

-- what the terms of a total add
abbrev pub added_by : List Sum → List (Bool × List ℕ) → ℕ
added_by sums [] = 0
added_by sums (t ∷ ts) = cond t.0 (added_to sums t.1) (taken_from sums t.1) + added_by sums ts

-- what they take
abbrev pub taken_by : List Sum → List (Bool × List ℕ) → ℕ
taken_by sums [] = 0
taken_by sums (t ∷ ts) = cond t.0 (taken_from sums t.1) (added_to sums t.1) + taken_by sums ts

-- whether static bytes are the number that they are to be, modulo 256 ^ n
abbrev pub is_total : List ℕ → List Sum → Total → Bool
is_total fixed sums t =
    let block = num (take t.n (drop t.at fixed)) in
    (block + taken_by sums t.terms) % 256 ^ t.n == (t.constant + added_by sums t.terms) % 256 ^ t.n

-- whether all totals hold
abbrev pub are_totals : List ℕ → List Sum → List Total → Bool
are_totals fixed sums [] = true
are_totals fixed sums (t ∷ ts) = is_total fixed sums t && are_totals fixed sums ts

-- whether rules are kept: nothing was broken, and each `always` line holds of what stands and of the static bytes
abbrev pub are_kept : AppRules → Result Standing Break → List ℕ → Bool
are_kept r (Err b) fixed = false
are_kept r (Ok s) fixed = are_in_ranges fixed r.ranges && are_totals fixed s.kept r.totals

-- whether a history and static bytes keep the rules
abbrev pub keeps_rules : AppRules → History → List ℕ → Bool
keeps_rules r h fixed = are_kept r (standing_after r h) fixed
