-- Between commands: the classes of commands, and what may follow a moment at which power may go.
use Rattle.std.specs.Prelude.{ℕ, ◌+◌, ◌-◌, Bool, true, false, cond, not, ◌&&◌, ◌||◌, nat_lt, nat_le, ◌==◌, List, [], ◌∷◌, ◌++◌, length, map, flat_map, filter, Option, Some, None}
use Rattle.model_rules.specs.model_device.specs.Bytes.{bytes2, zeros}
use Rattle.model_rules.specs.model_device.specs.Card.{App}
use Rattle.model_rules.specs.model_text.specs.Listing.{hex_text}
use Rattle.model_rules.specs.model_machine.specs.Frame.{dynamic_base, public_base}
use Rattle.model_rules.specs.Rules.{Trigger, AtTurn, AtCommand, AtAnswer, AtSession, OnLine, Range, AppRules}
use Rattle.model_rules.specs.Keeping.{Amounts}
use Rattle.model_prove.specs.Sets.{Set, is_in, all_bytes, numbers_from, union, with_value, is_subset}
use Rattle.model_prove.specs.Facts.{Facts, values_at, know, know_all, know_bytes, within}
use Rattle.model_prove.specs.Compares.{NoCompare}
use Rattle.model_prove.specs.Digits.{same}
use Rattle.model_prove.specs.Keys.{Start, Delegated, OfClass, PlaceKey, MomentKey, Known, same_lists}
use Rattle.model_prove.specs.Texts.{Opens, opened, all_after, same_opens, after_any, any_count, matches_of}
use Rattle.model_prove.specs.Arrivals.{Setting, Arrival, AtPlace, AtMoment, arrive, idle, static_size, after_command, after_session}

-- ---- classes

-- the pattern of a line that speaks of a command, before others
abbrev pub apdu_pattern : Trigger → List (List ℕ) → List (List ℕ)
apdu_pattern (AtCommand p) rest = p ∷ rest
apdu_pattern (AtAnswer p q) rest = p ∷ rest
apdu_pattern trigger rest = rest

-- the patterns of commands, in the order of their lines
abbrev pub apdu_patterns : List OnLine → List (List ℕ)
apdu_patterns [] = []
apdu_patterns (l ∷ ls) = apdu_pattern l.trigger (apdu_patterns ls)

-- headers that the patterns do not tell apart so far: what is left of the patterns, and the values of their bytes
pub record Header : Type 0 where
  pub left : Opens
  pub sets : List Set

-- a value put to those that lead to the same
abbrev pub with_left : ℕ → Opens → List (Opens × Set) → List (Opens × Set)
with_left v o [] = (o, v ∷ []) ∷ []
with_left v o (g ∷ gs) =
    let rest = with_left v o gs in
    cond (same_opens g.0 o) ((g.0, with_value v g.1) ∷ gs) (g ∷ rest)

-- the values of a byte, by what they leave of the patterns
abbrev pub by_left : Opens → Set → List (Opens × Set)
by_left o [] = []
by_left o (v ∷ vs) = with_left v (all_after (hex_text (v ∷ [])) o) (by_left o vs)

-- headers with one byte more, of these values
abbrev pub with_header_byte : Set → Header → List Header
with_header_byte s h = map (λ g. record { left = g.0; sets = h.sets ++ g.1 ∷ [] }) (by_left h.left s)

-- all values but some
abbrev pub all_but : List ℕ → Set
all_but vs = filter (λ v. not (is_in v vs)) all_bytes

-- The headers that reach an application: not of class FF or BE, and not 00 A4 04.
abbrev pub headers : List (List ℕ) → List Header
headers ps =
    let start : Header = record { left = map opened ps; sets = [] } in
    let zero_class = with_header_byte (0 ∷ []) start in
    let others = with_header_byte (all_but (0 ∷ 0xBE ∷ 0xFF ∷ [])) start in
    let select = flat_map (with_header_byte (all_but (4 ∷ []))) (flat_map (with_header_byte (0xA4 ∷ [])) zero_class) in
    let plain = flat_map (with_header_byte (all_but (0xA4 ∷ []))) zero_class ++ flat_map (with_header_byte all_bytes) others in
    flat_map (with_header_byte all_bytes) (select ++ flat_map (with_header_byte all_bytes) plain)

-- a class of commands: which lines match, and the values of the header's bytes
pub record Class : Type 0 where
  pub matches : List Bool
  pub sets : List Set

-- set by set the union
abbrev pub union_all : List Set → List Set → List Set
union_all [] ts = ts
union_all (s ∷ ss) [] = s ∷ ss
union_all (s ∷ ss) (t ∷ ts) = union s t ∷ union_all ss ts

-- classes with the headers of one more
abbrev pub with_class : Class → List Class → List Class
with_class c [] = c ∷ []
with_class c (d ∷ ds) =
    let rest = with_class c ds in
    cond (same_lists same c.matches d.matches) (record { matches = d.matches; sets = union_all c.sets d.sets } ∷ ds) (d ∷ rest)

-- classes with those of a header, which any bytes may follow
abbrev pub with_classes : List Set → List Opens → List Class → List Class
with_classes sets [] cs = cs
with_classes sets (o ∷ os) cs = with_class (record { matches = matches_of o; sets = sets }) (with_classes sets os cs)

-- the classes of some headers
abbrev pub classes_of : List Header → List Class
classes_of [] = []
classes_of (h ∷ hs) = with_classes h.sets (after_any any_count (h.left ∷ [])) (classes_of hs)

-- the classes that some command is in
abbrev pub classes : AppRules → List Class
classes r = classes_of (headers (apdu_patterns r.ons))

-- ---- beginnings of frames

-- the place at which a frame begins
abbrev pub first_place : Setting → Start → Amounts → PlaceKey
first_place s start a =
    record {
      at = 0;
      start = start;
      allowances = a;
      c = false;
      z = false;
      dt = dynamic_base + s.app.session;
      lb = dynamic_base + s.app.session;
      protected = false;
      calls = [];
    }

-- the place of CLA in the public segment
abbrev pub header_at : ℕ
header_at = public_base + 1028

-- what is known of the public bytes of a command: its header, the high byte of Lc, which is at most 4, four zeros before
-- CLA, La 0000 and SW 9000
abbrev pub public_facts : List Set → Facts → Facts
public_facts header f =
    know_bytes (header_at - 4) (zeros 4) (know_all header_at header (know (header_at + 5) (0 ∷ 1 ∷ 2 ∷ 3 ∷ 4 ∷ [])
    (know_bytes (header_at + 9) (0 ∷ 0 ∷ 0x90 ∷ 0 ∷ []) f)))

-- the facts of the static bytes alone
abbrev pub static_facts : Setting → Facts → Facts
static_facts s f = within 0 (static_size s) f

-- static facts with session bytes that are zero
abbrev pub with_zero_session : Setting → Facts → Facts
with_zero_session s f = know_bytes dynamic_base (zeros s.app.session) (static_facts s f)

-- the facts of the static and session bytes alone: between commands nothing else is kept
abbrev pub own_facts : Setting → Facts → Facts
own_facts s f = static_facts s f ++ within dynamic_base (dynamic_base + s.app.session) f

-- a place from which nothing waits and nothing was compared
abbrev pub begun : Setting → Start → Amounts → Facts → Arrival
begun s start a f = AtPlace (first_place s start a) (record { bytes = f; kept = static_facts s f; compare = NoCompare })

-- a command of a class, after its event
abbrev pub commanded : Setting → Amounts → Facts → Class → List Arrival
commanded s a f c = arrive None (after_command s c.matches a) (λ b. begun s (OfClass c.matches) b (public_facts c.sets (own_facts s f)) ∷ [])

-- a selection: a session begins with zero session bytes
abbrev pub selected : Setting → Amounts → Facts → List Arrival
selected s a f =
    arrive None (after_session s a) (λ b. AtMoment (record { selected = true; allowances = b }) (with_zero_session s f) ∷ [])

-- what may follow a moment, besides a selection: in a session its end and a command, else a delegation
abbrev pub continued : Bool → Setting → List Class → Amounts → Facts → List Arrival
continued true s cs a f = arrive None (after_session s a) (λ b. idle b (static_facts s f)) ++ flat_map (commanded s a f) cs
continued false s cs a f = begun s Delegated a (with_zero_session s f) ∷ []

-- The outcomes of a moment.
abbrev pub moment_arrivals : Setting → List Class → MomentKey → Facts → List Arrival
moment_arrivals s cs key f = selected s key.allowances f ++ continued key.selected s cs key.allowances f

-- the moment at which the application is created
abbrev pub created : Setting → Arrival
created s = AtMoment (record { selected = false; allowances = s.rules.allowances }) (know_bytes 0 s.app.fixed [])

-- ---- rounding

-- the values from low to high
abbrev pub values_between : ℕ → ℕ → Set
values_between low high = numbers_from low (high + 1 - low)

-- the values of the first range of a byte that holds a set, if one does
abbrev pub range_around : List Range → ℕ → Set → Option Set
range_around [] a s = None
range_around (r ∷ rs) a s =
    let rest = range_around rs a s in
    cond (r.at == a && is_subset s (values_between r.low r.high)) (Some (values_between r.low r.high)) rest

-- a fact of more than 16 values, rounded to a range around it, or to none
abbrev pub rounded_to : Option Set → ℕ → Facts → Facts
rounded_to None a rest = rest
rounded_to (Some s) a rest = cond (nat_le 256 (length s)) rest ((a, s) ∷ rest)

-- Facts between commands, rounded, so that a counter ends after few rounds.
abbrev pub rounded : List Range → Facts → Facts
rounded rs [] = []
rounded rs (e ∷ f) =
    let rest = rounded rs f in
    cond (nat_le (length e.1) 16) (e ∷ rest) (rounded_to (range_around rs e.0 e.1) e.0 rest)

-- whether the facts of a moment keep a byte in its range
abbrev pub keeps_range : Facts → Range → Bool
keeps_range f r = is_subset (values_at f r.at) (values_between r.low r.high)
