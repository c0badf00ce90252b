-- Where an outcome leads: the events that come on the way, and the moment or the place after them.
use Rattle.std.specs.Prelude.{ℕ, ◌+◌, ◌-◌, Bool, true, false, cond, not, ◌&&◌, ◌||◌, nat_lt, nat_le, ◌==◌, List, [], ◌∷◌, ◌++◌, length, map, flat_map, codes, Option, Some, None, Result, Ok, Err}
use Rattle.model_rules.specs.model_machine.specs.declared.instruction.Ins.{Ins}
use Rattle.model_rules.specs.model_machine.specs.declared.machine.Abend.{Abend}
use Rattle.model_rules.specs.model_machine.specs.Frame.{dynamic_base, public_base}
use Rattle.model_rules.specs.model_machine.specs.Chain.{Abended}
use Rattle.model_rules.specs.model_device.specs.Card.{App}
use Rattle.model_rules.specs.model_text.specs.TurnText.{outcome_text}
use Rattle.model_rules.specs.model_events.specs.Matching.{fits}
use Rattle.model_rules.specs.Rules.{Trigger, AtTurn, AtCommand, AtAnswer, AtSession, OnLine, AppRules}
use Rattle.model_rules.specs.Keeping.{Amounts, Break, ByAbend, OnTurn, OnSession, after_occasion, after_lines, after_line, line_of}
use Rattle.model_prove.specs.Sets.{Set, is_in, is_subset}
use Rattle.model_prove.specs.Facts.{Facts, values_at, within, without_bytes}
use Rattle.model_prove.specs.Compares.{touched}
use Rattle.model_prove.specs.Keys.{Start, Delegated, OfClass, PlaceKey, MomentKey, Known, same_lists}
use Rattle.model_prove.specs.Digits.{same}
use Rattle.model_prove.specs.Texts.{Opens, opened, after_bytes, after_any, any_count, matches_of}

-- the rules and the application that they speak of
pub record Setting : Type 0 where
  pub rules : AppRules
  pub app : App

-- Where an outcome leads: to a place, to a moment at which power may go, to a rule that is broken, at a place or between
-- commands, or to a place whose control is not known.
pub data Arrival : Type 0 where
  AtPlace : (key : PlaceKey) (known : Known) → Arrival
  AtMoment : (key : MomentKey) (facts : Facts) → Arrival
  Breaks : (broken : Break) (at : Option ℕ) → Arrival
  Lost : (at : ℕ) → Arrival

-- what follows an event: nothing after a broken rule
abbrev pub arrive : Option ℕ → Result Amounts Break → (Amounts → List Arrival) → List Arrival
arrive at (Err b) next = Breaks b at ∷ []
arrive at (Ok a) next = next a

-- ---- what is known of static and session bytes

-- the number of static bytes
abbrev pub static_size : Setting → ℕ
static_size s = length s.app.fixed

-- Without protection what power leaves is what is read.
abbrev pub settled : Setting → Bool → Known → Known
settled s true k = k
settled s false k = record k { kept = within 0 (static_size s) k.bytes }

-- the facts of the session bytes
abbrev pub session_facts : Setting → Known → Facts
session_facts s k = within dynamic_base (dynamic_base + s.app.session) k.bytes

-- ---- lines that speak of commands

-- of a `command` or `answer` line whether its class has it; the classes of the lines after it
abbrev pub pick : Trigger → List Bool → (Bool → Bool → Bool) → (List Bool → List Bool) → List Bool
pick (AtCommand p) (b ∷ bs) test rest = test false b ∷ rest bs
pick (AtAnswer p q) (b ∷ bs) test rest = test true b ∷ rest bs
pick trigger bs test rest = false ∷ rest bs

-- for each line whether it applies to a command of a class
abbrev pub command_picks : List Bool → List OnLine → List Bool
command_picks bs [] = []
command_picks bs (l ∷ ls) = pick l.trigger bs (λ answer b. not answer && b) (λ bs. command_picks bs ls)

-- for each line whether it applies to its answer, if its result matches
abbrev pub answer_picks : List Bool → List OnLine → List Bool
answer_picks bs [] = []
answer_picks bs (l ∷ ls) = pick l.trigger bs (λ answer b. answer && b) (λ bs. answer_picks bs ls)

-- whether a line is an `answer` line
abbrev pub is_answer : Trigger → Bool
is_answer (AtAnswer p q) = true
is_answer trigger = false

-- whether each line applies to an answer: of its class, and with a result that matches; results are those of the
-- `answer` lines
abbrev pub with_results : Bool → List Bool → List Bool → (List Bool → List Bool) → List Bool
with_results true (p ∷ ps) (b ∷ bs) rest = (p && b) ∷ rest bs
with_results answer (p ∷ ps) bs rest = false ∷ rest bs
with_results answer [] bs rest = []

-- for each line whether it applies to an answer of a command
abbrev pub answered_picks : List OnLine → List Bool → List Bool → List Bool
answered_picks [] ps bs = []
answered_picks (l ∷ ls) [] bs = []
answered_picks (l ∷ ls) (p ∷ ps) bs = with_results (is_answer l.trigger) (p ∷ ps) bs (λ bs. answered_picks ls ps bs)

-- what comes after a line, unless it is broken
abbrev pub after_pick : Result Amounts Break → (Amounts → Result Amounts Break) → Result Amounts Break
after_pick (Err b) next = Err b
after_pick (Ok a) next = next a

-- the allowances after the lines that are picked
abbrev pub after_picks : List Bool → List OnLine → Amounts → Result Amounts Break
after_picks [] ls a = Ok a
after_picks (b ∷ bs) [] a = Ok a
after_picks (b ∷ bs) (l ∷ ls) a = after_pick (after_line b l a) (λ c. after_picks bs ls c)

-- the pattern of a result before others, if a line has one
abbrev pub pattern_of_result : Trigger → List (List ℕ) → List (List ℕ)
pattern_of_result (AtAnswer p q) rest = q ∷ rest
pattern_of_result trigger rest = rest

-- the patterns of results, in the order of their lines
abbrev pub result_patterns : List OnLine → List (List ℕ)
result_patterns [] = []
result_patterns (l ∷ ls) = pattern_of_result l.trigger (result_patterns ls)

-- the allowances after an answer of a command of a class, whose result matches these lines
abbrev pub after_answer : Setting → List Bool → List Bool → Amounts → Result Amounts Break
after_answer s class results a = after_picks (answered_picks s.rules.ons (answer_picks class s.rules.ons) results) s.rules.ons a

-- the allowances after a command of a class
abbrev pub after_command : Setting → List Bool → Amounts → Result Amounts Break
after_command s class a = after_picks (command_picks class s.rules.ons) s.rules.ons a

-- the allowances after a session begins or ends
abbrev pub after_session : Setting → Amounts → Result Amounts Break
after_session s a = after_occasion s.rules.ons OnSession a

-- ---- moments

-- a moment without a session
abbrev pub idle : Amounts → Facts → List Arrival
idle a f = AtMoment (record { selected = false; allowances = a }) f ∷ []

-- a moment of a session
abbrev pub in_session : Setting → Known → Amounts → List Arrival
in_session s k a = AtMoment (record { selected = true; allowances = a }) (k.kept ++ session_facts s k) ∷ []

-- a stop: from a command the session ends with it; from a delegation the session is another's
abbrev pub stopped : Setting → Start → Amounts → Facts → List Arrival
stopped s Delegated a f = idle a f
stopped s (OfClass class) a f = arrive None (after_session s a) (λ b. idle b f)

-- an abend: a command is answered with it, and its session goes on; a delegation ends with it
abbrev pub abended : Setting → Start → Amounts → Known → Abend → List Arrival
abended s Delegated a k cause = idle a k.kept
abended s (OfClass class) a k cause =
    arrive None (after_answer s class (map (λ q. fits q (outcome_text (Abended cause))) (result_patterns s.rules.ons)) a) (in_session s k)

-- an abend of an instruction of the application, unless a rule says that there is none
abbrev pub fails_unless : Option ℕ → Setting → PlaceKey → Known → Abend → List Arrival
fails_unless None s key k cause = abended s key.start key.allowances k cause
fails_unless (Some number) s key k cause = Breaks (ByAbend number) (Some key.at) ∷ []

-- an abend of the instruction at a place
abbrev pub fails : Setting → PlaceKey → Known → Abend → List Arrival
fails s key k cause = fails_unless s.rules.abends s key k cause

-- ---- turns

-- the depths of the frames of a place
abbrev pub depths : Start → List ℕ
depths Delegated = 2 ∷ 3 ∷ 4 ∷ []
depths (OfClass class) = 1 ∷ []

-- what follows the event of an instruction that was done, with DT and flags after it, at each depth
abbrev pub after_turn : Setting → PlaceKey → Ins → ℕ → Bool → Bool → (Amounts → List Arrival) → List Arrival
after_turn s key i dt c z next =
    flat_map (λ d. arrive (Some key.at) (after_occasion s.rules.ons (OnTurn (line_of d key.at i dt c z)) key.allowances) next) (depths key.start)

-- ---- answers

-- whether a length of a reply is possible: 0, at most 1,024, or above that
pub record Lengths : Type 0 where
  pub some : Bool
  pub fitting : Bool
  pub too_long : Bool

-- whether some value of a set passes a test
abbrev pub some_value : (ℕ → Bool) → Set → Bool
some_value test [] = false
some_value test (v ∷ vs) = test v || some_value test vs

-- the lengths that La's two bytes allow
abbrev pub lengths_of : Set → Set → Lengths
lengths_of high low =
    record {
      some = some_value (λ v. nat_lt 0 v) high || some_value (λ v. nat_lt 0 v) low;
      fitting = some_value (λ v. nat_lt v 4) high || (is_in 4 high && is_in 0 low);
      too_long = some_value (λ v. nat_lt 4 v) high || (is_in 4 high && some_value (λ v. nat_lt 0 v) low);
    }

-- the places of La and SW in the public segment
abbrev pub la_at : ℕ
la_at = public_base + 1037

-- the bytes of a reply before its SW: none, or any
abbrev pub bodies : Bool → Opens → List Opens
bodies false o = o ∷ []
bodies true o = after_any any_count (o ∷ [])

-- whether a combination is among some
abbrev pub has_combination : List Bool → List (List Bool) → Bool
has_combination m [] = false
has_combination m (n ∷ ns) = same_lists same m n || has_combination m ns

-- each combination once
abbrev pub distinct : List (List Bool) → List (List Bool)
distinct [] = []
distinct (m ∷ ms) = let rest = distinct ms in cond (has_combination m rest) rest (m ∷ rest)

-- each combination of `answer` lines that match and that do not, of some reply
abbrev pub replies : Setting → Known → List (List Bool)
replies s k =
    let la = lengths_of (values_at k.bytes la_at) (values_at k.bytes (la_at + 1)) in
    let starts = bodies la.some (map opened (result_patterns s.rules.ons)) in
    distinct (map matches_of (flat_map (after_bytes (values_at k.bytes (la_at + 3))) (flat_map (after_bytes (values_at k.bytes (la_at + 2))) starts)))

-- an exit of a frame, after its event: a command is answered by each reply, a delegation ends
abbrev pub exited : Setting → Start → Known → Amounts → List Arrival
exited s Delegated k a = idle a k.kept
exited s (OfClass class) k a = flat_map (λ m. arrive None (after_answer s class m a) (in_session s k)) (replies s k)
