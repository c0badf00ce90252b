-- How the rules of an application are read: the lines of a deck whose first field begins with `#@`, each with its
-- refusals in their order, after the deck's own. One whose first field is longer is refused, so that no rule is taken for
-- a comment.
use Rattle.std.specs.Prelude.{ℕ, suc, ◌-◌, ℤ, pos, negsuc, Bool, true, false, cond, not, ◌&&◌, ◌||◌, nat_lt, nat_le, ◌==◌, List, [], ◌∷◌, ◌++◌, length, bytes_eq, codes, is_some, is_none, ok_or, Option, Some, None, Result, Ok, Err}
use Rattle.model_play.specs.model_device.specs.Bytes.{lookup, zeros}
use Rattle.model_play.specs.model_text.specs.Text.{◌>>=◌, ok_as, err_as, only_if, is_empty, pieces, lines, with_numbers, fields}
use Rattle.model_play.specs.model_text.specs.Assembly.{natural, signed_number}
use Rattle.model_play.specs.model_machine.specs.Primitives.{entry_of_number}
use Rattle.model_play.specs.model_card.specs.declared.card.Sizes.{Sizes}
use Rattle.model_play.specs.model_card.specs.Units.{UnitParts}
use Rattle.model_play.specs.model_card.specs.Manager.{fits_limits}
use Rattle.model_play.specs.declared.deck.DeckCause.{DeckCause}
use Rattle.model_play.specs.declared.deck.DeckCause.TheVariants.{BadLine, BadNumber, OutOfRange, NameTwice, UnknownName}
use Rattle.model_play.specs.DeckGrammar.{DeckLine, name_field, number_field, deck_read}
use Rattle.model_play.specs.DeckGrammar as line
use Rattle.model_play.specs.RuleLines.{Parts, parts_of, full_parts, name_and_amount, marked_lines}
use Rattle.model_play.specs.model_text.specs.Text.{begins_with, stays_inside}
use Rattle.model_rules.specs.Rules.{Trigger, AtTurn, AtCommand, AtAnswer, AtSession, Action, Allows, Spends, Needs, Amount, Constant, PublicBytes, Target, AppRules, no_app_rules}

-- why a line of rules is refused: a cause of decks, or that no `#@ app` line is above
pub data RuleCause : Type 0 where
  Deck : (cause : DeckCause) → RuleCause
  NoApplication : RuleCause

-- a result with the causes of decks
abbrev pub of_deck : {A : Type 0} → Result A DeckCause → Result A RuleCause
of_deck r = err_as Deck r

-- a value, refused for a cause of decks unless a test passes
abbrev pub unless : {A : Type 0} → Bool → DeckCause → A → Result A RuleCause
unless test cause a = only_if test (Deck cause) a

-- ---- what a `load` line creates

-- a `load` line: its unit, and the numbers of static and session bytes
pub record LoadLine : Type 0 where
  pub unit : UnitParts
  pub fixed : ℕ
  pub session : ℕ

-- the lines outside of sections whose first field is `load`, with their numbers; the first line of these is in a section
-- or not
abbrev pub load_names : Bool → List (ℕ × List ℕ) → List (ℕ × List (List ℕ))
load_names inside [] = []
load_names inside (l ∷ ls) =
    cond (not inside && begins_with (codes "load") (fields l.1)) ((l.0, fields l.1) ∷ load_names (stays_inside inside (fields l.1)) ls)
    (load_names (stays_inside inside (fields l.1)) ls)

-- a `load` line under the name that its fields say
abbrev pub load_under : Option (List (List ℕ)) → LoadLine → List (List ℕ × LoadLine)
load_under (Some (word ∷ name ∷ rest)) l = (name, l) ∷ []
load_under other l = []

-- the `load` lines of a deck, each under the name of its unit, in their order
abbrev pub loads_of : List (ℕ × List (List ℕ)) → List (ℕ × DeckLine) → List (List ℕ × LoadLine)
loads_of names [] = []
loads_of names ((n, line.Sent (line.Load u fixed session)) ∷ ls) =
    load_under (entry_of_number n names) (record { unit = u; fixed = fixed; session = session }) ++ loads_of names ls
loads_of names (l ∷ ls) = loads_of names ls

-- the sizes of what it creates
abbrev pub sizes_of : LoadLine → Sizes
sizes_of l =
    record {
      code = length l.unit.code;
      fixed = l.fixed;
      init = length l.unit.init;
      session = l.session;
      dir = length l.unit.dir;
      fci = length l.unit.fci;
      deny = 0;
    }

-- the application that it creates: the static bytes begin with the unit's data, and the access list is empty
abbrev pub target_of : List ℕ → LoadLine → Target
target_of name l =
    record {
      unit = name;
      name = l.unit.aid;
      app = record {
        code = l.unit.code;
        fixed = l.unit.init ++ zeros (l.fixed - length l.unit.init);
        session = l.session;
        deny = 0;
        dir = l.unit.dir;
        fci = l.unit.fci;
        place = 0;
      };
    }

-- ---- fields

-- the text between the brackets of `REG[TEXT]`, after its register, and all else BadLine
abbrev pub bracketed : List (List ℕ) → Result (List ℕ) RuleCause
bracketed (inside ∷ [] ∷ []) = Ok inside
bracketed other = Err (Deck BadLine)

-- the register of `REG[TEXT]` and its text
abbrev pub register_and_text : List (List ℕ) → Result (List ℕ × List ℕ) RuleCause
register_and_text (register ∷ rest ∷ []) = ok_as (λ t. (register, t)) (bracketed (pieces (λ c. c == 93) rest))
register_and_text other = Err (Deck BadLine)

-- a field `REG[TEXT]`
abbrev pub register_field : List ℕ → Result (List ℕ × List ℕ) RuleCause
register_field t = register_and_text (pieces (λ c. c == 91) t)

-- a field `SB[TEXT]`: its text
abbrev pub static_field : List ℕ → Result (List ℕ) RuleCause
static_field t = register_field t >>= λ p. unless (bytes_eq p.0 (codes "SB")) BadLine p.1

-- a number as assembly writes it, without a sign
abbrev pub natural_field : List ℕ → Result ℕ RuleCause
natural_field t = ok_or (natural t) (Deck BadNumber)

-- a number as assembly writes it
abbrev pub signed_field : List ℕ → Result ℤ RuleCause
signed_field t = ok_or (signed_number t) (Deck BadNumber)

-- the two ends of `P..Q`, or one place alone
abbrev pub ends_in : List (List ℕ) → Result (List ℕ × List ℕ) RuleCause
ends_in (p ∷ []) = Ok (p, p)
ends_in (p ∷ [] ∷ q ∷ []) = Ok (p, q)
ends_in other = Err (Deck BadLine)

-- the two ends of a text `P..Q`, or `P`
abbrev pub ends_of : List ℕ → Result (List ℕ × List ℕ) RuleCause
ends_of t = ends_in (pieces (λ c. c == 46) t)

-- K, a decimal number up to 4,294,967,295
abbrev pub amount_field : List ℕ → Result ℕ RuleCause
amount_field t = of_deck (number_field 0 4294967295 t)

-- a name
abbrev pub rule_name : List ℕ → Result (List ℕ) RuleCause
rule_name t = of_deck (name_field t)

-- ---- amounts of sums

-- the size of the public segment
abbrev pub public_bytes : ℕ
public_bytes = 1041

-- the place in the public segment of an offset from one of its ends, PB or PT
abbrev pub place_from : Bool → ℤ → Option ℕ
place_from true (pos k) = Some k
place_from true (negsuc k) = None
place_from false (pos k) = None
place_from false (negsuc k) = cond (nat_lt k public_bytes) (Some (public_bytes - suc k)) None

-- the amount in the bytes from one place to another, if they lie in the public segment
abbrev pub public_amount : Option ℕ → Option ℕ → Result Amount RuleCause
public_amount (Some p) (Some q) = unless (nat_le p q && nat_lt q public_bytes) OutOfRange (PublicBytes p (suc q - p))
public_amount p q = Err (Deck OutOfRange)

-- an amount by its form: a number, or the texts of two offsets from PB (true) or PT
pub data AmountForm : Type 0 where
  OfNumber : List ℕ → AmountForm
  OfBytes : Bool → List ℕ → List ℕ → AmountForm

-- an amount by its register
abbrev pub form_at_register : List ℕ × List ℕ → Result AmountForm RuleCause
form_at_register p =
    cond (bytes_eq p.0 (codes "PB") || bytes_eq p.0 (codes "PT")) (ok_as (λ e. OfBytes (bytes_eq p.0 (codes "PB")) e.0 e.1) (ends_of p.1)) (Err (Deck BadLine))

-- the form of an amount without or with brackets: K, `PB[P..Q]` or `PT[P..Q]`
abbrev pub form_of_amount : Bool → List ℕ → Result AmountForm RuleCause
form_of_amount true t = Ok (OfNumber t)
form_of_amount false t = register_field t >>= form_at_register

-- an amount that was read: a number, or two offsets from PB (true) or PT
pub data AmountRead : Type 0 where
  Number : ℕ → AmountRead
  Offsets : Bool → ℤ → ℤ → AmountRead

-- the numbers of an amount
abbrev pub amount_read : AmountForm → Result AmountRead RuleCause
amount_read (OfNumber t) = ok_as Number (amount_field t)
amount_read (OfBytes base from to) = do
  p ← signed_field from
  q ← signed_field to
  Ok (Offsets base p q)

-- whether a text has no opening bracket
abbrev pub has_no_bracket : List ℕ → Bool
has_no_bracket t = nat_le (length (pieces (λ c. c == 91) t)) 1

-- the amount that was read, in its range
abbrev pub amount_of_read : AmountRead → Result Amount RuleCause
amount_of_read (Number k) = Ok (Constant k)
amount_of_read (Offsets base p q) = public_amount (place_from base p) (place_from base q)

-- ---- words of the lines

-- the words of the rules of an application
pub data AppWord : Type 0 where
  AppLine : AppWord
  AllowLine : AppWord
  SumWord : AppWord
  OnWord : AppWord
  NeverLine : AppWord
  AlwaysLine : AppWord
  MoveLine : AppWord

-- the words of the rules of an application; `move` lines are of explorations
abbrev pub app_words : List (List ℕ × AppWord)
app_words =
    (codes "app", AppLine) ∷ (codes "allow", AllowLine) ∷ (codes "sum", SumWord) ∷ (codes "on", OnWord) ∷ (codes "never", NeverLine)
    ∷ (codes "always", AlwaysLine) ∷ (codes "move", MoveLine) ∷ []

-- the events of `on` lines
pub data EventWord : Type 0 where
  TurnEvent : EventWord
  CommandEvent : EventWord
  AnswerEvent : EventWord
  SessionEvent : EventWord

-- their words
abbrev pub event_words : List (List ℕ × EventWord)
event_words = (codes "turn", TurnEvent) ∷ (codes "command", CommandEvent) ∷ (codes "answer", AnswerEvent) ∷ (codes "session", SessionEvent) ∷ []

-- what an `on` line does: to an allowance, or to a sum, which it adds to (true) or takes from
pub data Deeds : Type 0 where
  OnAllowance : Action → Deeds
  OnSum : Bool → Deeds

-- the words of actions on allowances
abbrev pub action_words : List (List ℕ × Deeds)
action_words = (codes "allow", OnAllowance Allows) ∷ (codes "spend", OnAllowance Spends) ∷ (codes "need", OnAllowance Needs) ∷ []

-- the words after a turn: those, and of sums
abbrev pub turn_words : List (List ℕ × Deeds)
turn_words = (codes "add", OnSum true) ∷ (codes "take", OnSum false) ∷ action_words

-- the word before a result
abbrev pub gives_words : List (List ℕ × Bool)
gives_words = (codes "gives", true) ∷ []

-- ---- `on` lines

-- the rules have an application, else NoApplication
abbrev pub with_app : {A : Type 0} → AppRules → A → Result A RuleCause
with_app r a = only_if (is_some r.target) NoApplication a

-- an `on` line about an allowance
abbrev pub with_on : AppRules → ℕ → Trigger → Action → List ℕ → ℕ → Result AppRules RuleCause
with_on r n trigger action name k = do
  r ← with_app r r
  unless (is_some (lookup r.allowances name)) UnknownName (record r {
    ons = r.ons ++ record { number = n; trigger = trigger; action = action; name = name; amount = k } ∷ [];
  })

-- an `on turn` line about a sum
abbrev pub with_move : AppRules → ℕ → List ℕ → Bool → List ℕ → AmountRead → Result AppRules RuleCause
with_move r n pattern adds name read = do
  r ← with_app r r
  r ← unless (is_some (lookup r.sums name)) UnknownName r
  k ← amount_of_read read
  Ok (record r { moves = r.moves ++ record { number = n; line = pattern; adds = adds; name = name; amount = k } ∷ [] })

-- the pattern of a turn, for a line about a sum; one about a sum of any other event is no line
abbrev pub with_move_at : AppRules → ℕ → Trigger → Bool → List ℕ → AmountRead → Result AppRules RuleCause
with_move_at r n (AtTurn pattern) adds name read = with_move r n pattern adds name read
with_move_at r n trigger adds name read = Err (Deck BadLine)

-- an `on` line by what it does, and its two last fields
abbrev pub with_deed : AppRules → ℕ → Trigger → Deeds → List (List ℕ) → Result AppRules RuleCause
with_deed r n trigger (OnAllowance action) fs = of_deck (name_and_amount fs) >>= λ a. with_on r n trigger action a.0 a.1
with_deed r n trigger (OnSum adds) (name ∷ amount ∷ []) = do
  form ← form_of_amount (has_no_bracket amount) amount
  name ← rule_name name
  read ← amount_read form
  with_move_at r n trigger adds name read
with_deed r n trigger (OnSum adds) other = Err (Deck BadLine)

-- parts that have no field before their word
abbrev pub bare_parts : {W : Type 0} → Option (Parts W) → Result (Parts W) DeckCause
bare_parts None = Err BadLine
bare_parts (Some p) = only_if (is_empty p.0) BadLine p

-- an `on` line by its event
abbrev pub with_event_line : AppRules → ℕ → EventWord → List (List ℕ) → Result AppRules RuleCause
with_event_line r n TurnEvent fs = of_deck (full_parts (parts_of turn_words fs)) >>= λ p. with_deed r n (AtTurn p.0) p.1 p.2
with_event_line r n CommandEvent fs = of_deck (full_parts (parts_of action_words fs)) >>= λ p. with_deed r n (AtCommand p.0) p.1 p.2
with_event_line r n AnswerEvent fs = do
  a ← of_deck (full_parts (parts_of gives_words fs))
  p ← of_deck (full_parts (parts_of action_words a.2))
  with_deed r n (AtAnswer a.0 p.0) p.1 p.2
with_event_line r n SessionEvent fs = of_deck (bare_parts (parts_of action_words fs)) >>= λ p. with_deed r n AtSession p.1 p.2

-- an `on` line
abbrev pub on_line : AppRules → ℕ → List (List ℕ) → Result AppRules RuleCause
on_line r n [] = Err (Deck BadLine)
on_line r n (event ∷ fs) = ok_or (lookup event_words event) (Deck BadLine) >>= λ e. with_event_line r n e fs

-- ---- `always` lines

-- the number of static bytes of the application
abbrev pub static_size : Option Target → ℕ
static_size None = 0
static_size (Some g) = length g.app.fixed

-- `always SB[P] LOW HIGH`
abbrev pub with_range : AppRules → ℕ → List ℕ → List ℕ → List ℕ → Result AppRules RuleCause
with_range r n p low high = do
  p ← natural_field p
  low ← natural_field low
  high ← natural_field high
  r ← with_app r r
  unless (nat_lt p (static_size r.target) && nat_le low high && nat_le high 255) OutOfRange (record r {
    ranges = r.ranges ++ record { number = n; at = p; low = low; high = high } ∷ [];
  })

-- whether a term is added or taken
abbrev pub sign_of : List ℕ → Result Bool RuleCause
sign_of t = cond (bytes_eq t (codes "+")) (Ok true) (cond (bytes_eq t (codes "-")) (Ok false) (Err (Deck BadLine)))

-- the terms of a total: each a sign and a name
abbrev pub terms_of : List (List ℕ) → Result (List (Bool × List ℕ)) RuleCause
terms_of [] = Ok []
terms_of (sign ∷ []) = Err (Deck BadLine)
terms_of (sign ∷ name ∷ fs) = do
  s ← sign_of sign
  ts ← terms_of fs
  Ok ((s, name) ∷ ts)

-- each name of the terms is a name
abbrev pub are_names : List (Bool × List ℕ) → Result (List (Bool × List ℕ)) RuleCause
are_names [] = Ok []
are_names (t ∷ ts) = rule_name t.1 >>= λ name. ok_as (λ rest. t ∷ rest) (are_names ts)

-- whether each term is a sum that a line above names
abbrev pub are_sums : List (List ℕ × ℕ) → List (Bool × List ℕ) → Bool
are_sums sums [] = true
are_sums sums (t ∷ ts) = is_some (lookup sums t.1) && are_sums sums ts

-- `always SB[P..Q] = K + NAME - NAME`
abbrev pub with_total : AppRules → ℕ → List ℕ × List ℕ → List ℕ → List (Bool × List ℕ) → Result AppRules RuleCause
with_total r n ends k terms = do
  p ← natural_field ends.0
  q ← natural_field ends.1
  k ← amount_field k
  terms ← are_names terms
  r ← with_app r r
  r ← unless (are_sums r.sums terms) UnknownName r
  unless (nat_le p q && nat_lt q (static_size r.target)) OutOfRange (record r {
    totals = r.totals ++ record { number = n; at = p; n = suc q - p; constant = k; terms = terms } ∷ [];
  })

-- an `always` line
abbrev pub always_line : AppRules → ℕ → List (List ℕ) → Result AppRules RuleCause
always_line r n (block ∷ low ∷ high ∷ []) =
    cond (bytes_eq low (codes "=")) (static_field block >>= λ t. ends_of t >>= λ e. with_total r n e high [])
    (static_field block >>= λ p. with_range r n p low high)
always_line r n (block ∷ is ∷ k ∷ term ∷ terms) = do
  t ← static_field block
  e ← ends_of t
  is ← unless (bytes_eq is (codes "=")) BadLine is
  ts ← terms_of (term ∷ terms)
  with_total r n e k ts
always_line r n other = Err (Deck BadLine)

-- ---- line by line

-- `#@ app NAME`
abbrev pub with_target : List (List ℕ × LoadLine) → AppRules → List ℕ → Result AppRules RuleCause
with_target loads r name = do
  name ← rule_name name
  r ← unless (is_none r.target) NameTwice r
  l ← ok_or (lookup loads name) (Deck UnknownName)
  unless (fits_limits (sizes_of l)) OutOfRange (record r { target = Some (target_of name l) })

-- the first `never abend` line
abbrev pub with_never : AppRules → ℕ → Option ℕ → AppRules
with_never r n None = record r { abends = Some n }
with_never r n (Some m) = r

-- the rules with those of one more line, by its word and its fields after it; the deck's `load` lines by their names
unfoldable pub app_rule : List (List ℕ × LoadLine) → AppRules → ℕ → AppWord → List (List ℕ) → Result AppRules RuleCause
app_rule loads r n AppLine (name ∷ []) = with_target loads r name
app_rule loads r n AllowLine fs = do
  a ← of_deck (name_and_amount fs)
  unless (is_none (lookup r.allowances a.0)) NameTwice (record r { allowances = r.allowances ++ a ∷ [] })
app_rule loads r n SumWord fs = do
  a ← of_deck (name_and_amount fs)
  unless (is_none (lookup r.sums a.0)) NameTwice (record r { sums = r.sums ++ a ∷ [] })
app_rule loads r n OnWord fs = on_line r n fs
app_rule loads r n NeverLine (word ∷ []) =
    unless (bytes_eq word (codes "abend")) BadLine r >>= λ r. with_app r (with_never r n r.abends)
app_rule loads r n AlwaysLine fs = always_line r n fs
app_rule loads r n MoveLine fs = Ok r
app_rule loads r n word fs = Err (Deck BadLine)

-- the word of a rule, by the first field of its line, which is `#@` and no more, and the field after it
abbrev pub app_word : List ℕ → List ℕ → Result AppWord RuleCause
app_word mark word = cond (bytes_eq mark (codes "#@")) (ok_or (lookup app_words word) (Deck BadLine)) (Err (Deck BadLine))

-- a line by its fields
abbrev pub app_line : List (List ℕ × LoadLine) → AppRules → ℕ → List (List ℕ) → Result AppRules RuleCause
app_line loads r n (mark ∷ word ∷ fs) = app_word mark word >>= λ w. app_rule loads r n w fs
app_line loads r n other = Err (Deck BadLine)

-- the rules of lines, or the first refusal
unfoldable pub app_rules_from : List (List ℕ × LoadLine) → AppRules → List (ℕ × List ℕ) → Result AppRules (ℕ × RuleCause)
unfolding app_rule
app_rules_from loads r [] = Ok r
app_rules_from loads r (l ∷ ls) = err_as (λ c. (l.0, c)) (app_line loads r l.0 (fields l.1)) >>= λ s. app_rules_from loads s ls

-- rules that name an application; else the refusal of line 0
abbrev pub with_some_app : AppRules → Result AppRules (ℕ × RuleCause)
with_some_app r = only_if (is_some r.target) (0, NoApplication) r

-- the rules of a deck's text, or the first refusal; the deck's own come first
unfoldable pub app_rules_read : List ℕ → Result AppRules (ℕ × RuleCause)
unfolding deck_read marked_lines app_rules_from
app_rules_read text = do
  ls ← err_as (λ e. (e.0, Deck e.1)) (deck_read text)
  r ← app_rules_from (loads_of (load_names false (with_numbers 1 (lines text))) ls) no_app_rules (marked_lines false (with_numbers 1 (lines text)))
  with_some_app r
