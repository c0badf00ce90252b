-- Which patterns a text that is known in part can match: patterns are followed character by character, each as the list
-- of what is left of it on every way that is still open.
use Rattle.std.specs.Prelude.{ℕ, zero, suc, ◌+◌, Bool, true, false, cond, not, ◌&&◌, ◌||◌, ◌==◌, List, [], ◌∷◌, ◌++◌, length, map, flat_map, filter, bytes_eq, codes, Option, Some, None}
use Rattle.model_rules.specs.model_device.specs.Bytes.{has_name}
use Rattle.model_rules.specs.model_text.specs.Listing.{hex_text}
use Rattle.model_rules.specs.model_events.specs.Patterns.{is_star, is_any}
use Rattle.model_rules.specs.model_events.specs.Matching.{plain}
use Rattle.model_prove.specs.Sets.{Set}
use Rattle.model_prove.specs.Keys.{same_lists}

-- what is left of a pattern on each open way
abbrev pub Open : Type 0
Open = List (List ℕ)

-- a way more, unless it is there
abbrev pub with_way : List ℕ → Open → Open
with_way p ps = cond (has_name p ps) ps (p ∷ ps)

-- the ways of two lists
abbrev pub both_ways : Open → Open → Open
both_ways [] qs = qs
both_ways (p ∷ ps) qs = with_way p (both_ways ps qs)

-- a pattern, and what is left of it where stars at its front are nothing
abbrev pub openings : List ℕ → Open
openings [] = [] ∷ []
openings (p ∷ ps) = cond (is_star p) (with_way (p ∷ ps) (openings ps)) ((p ∷ ps) ∷ [])

-- what is left of one way after a character
abbrev pub way_after : ℕ → List ℕ → Open
way_after c [] = []
way_after c (p ∷ ps) = cond (is_star p) ((p ∷ ps) ∷ []) (cond (is_any p || (c == p)) (ps ∷ []) [])

-- the ways of a list, each with its openings
abbrev pub all_openings : Open → Open
all_openings [] = []
all_openings (p ∷ ps) = both_ways (openings p) (all_openings ps)

-- what is left of a pattern after a character
abbrev pub after_character : ℕ → Open → Open
after_character c ps = all_openings (flat_map (way_after c) ps)

-- what is left of it after a text
abbrev pub after_text : List ℕ → Open → Open
after_text [] ps = ps
after_text (c ∷ t) ps = after_text t (after_character c ps)

-- whether a pattern has no characters
abbrev pub is_none_left : List ℕ → Bool
is_none_left [] = true
is_none_left (c ∷ t) = false

-- the openings of a pattern that has characters
abbrev pub openings_unless : Bool → List ℕ → Open
openings_unless true p = []
openings_unless false p = openings p

-- a pattern of a line before any text; an empty one matches nothing
abbrev pub opened : List ℕ → Open
opened p = openings_unless (is_none_left (plain p)) (plain p)

-- whether the text so far matches
abbrev pub is_match : Open → Bool
is_match ps = has_name [] ps

-- ---- several patterns at once

-- what is left of each of several patterns
abbrev pub Opens : Type 0
Opens = List Open

-- after a text, in small letters
abbrev pub all_after : List ℕ → Opens → Opens
all_after t os = map (after_text (plain t)) os

-- whether two lists of ways are the same
abbrev pub same_opens : Opens → Opens → Bool
same_opens o p = same_lists (same_lists bytes_eq) o p

-- whether it is among some
abbrev pub is_among : Opens → List Opens → Bool
is_among o [] = false
is_among o (p ∷ ps) = same_opens o p || is_among o ps

-- one more, unless it is there
abbrev pub with_opens : Opens → List Opens → List Opens
with_opens o os = cond (is_among o os) os (o ∷ os)

-- those of two lists
abbrev pub both_opens : List Opens → List Opens → List Opens
both_opens [] qs = qs
both_opens (o ∷ os) qs = with_opens o (both_opens os qs)

-- what is left after each byte
abbrev pub after_bytes : Set → Opens → List Opens
after_bytes [] o = []
after_bytes (v ∷ vs) o = with_opens (all_after (hex_text (v ∷ [])) o) (after_bytes vs o)

-- the hexadecimal digits, in small letters
abbrev pub hex_digits : List ℕ
hex_digits = codes "0123456789abcdef"

-- what is left after each of some characters
abbrev pub after_each : List ℕ → Opens → List Opens
after_each [] o = []
after_each (c ∷ cs) o = with_opens (map (after_character c) o) (after_each cs o)

-- what is left of each after any digit
abbrev pub after_digit : List Opens → List Opens
after_digit [] = []
after_digit (o ∷ os) = both_opens (after_each hex_digits o) (after_digit os)

-- what there was, if nothing came to it, else the rest
abbrev pub any_unless : Bool → List Opens → List Opens → List Opens
any_unless true os rest = os
any_unless false os rest = rest

-- more bytes than a command or a reply has
abbrev pub any_count : ℕ
any_count = 1000000

-- What is left after any number of bytes: each that some front leads to. The fuel bounds how many there are.
abbrev pub after_any : ℕ → List Opens → List Opens
after_any zero os = os
after_any (suc n) os =
    let all = both_opens (after_digit (after_digit os)) os in
    let rest = after_any n all in
    any_unless (length all == length os) os rest

-- which of the patterns match
abbrev pub matches_of : Opens → List Bool
matches_of o = map is_match o
