-- A statement of a draft between its sections, and what it becomes in the deck.
use Rattle.std.specs.Prelude.{ℕ, ◌-◌, Bool, cond, nat_le, ◌==◌, List, [], ◌∷◌, ◌++◌, length, take, slice_index, unwrap_or, bytes_eq, codes, decimal, Option, Some, None, ok_or, Result, Ok, Err}
use Rattle.mc_text.specs.model_device.specs.Bytes.{lookup, has_name}
use Rattle.mc_text.specs.model_text.specs.Text.{◌>>=◌, ok_as, only_if, is_within, fields, hex_bytes}
use Rattle.mc_text.specs.model_text.specs.Listing.{hex_text}
use Rattle.mc_deck.specs.model_play.specs.declared.deck.DeckCause.{DeckCause}
use Rattle.mc_deck.specs.model_play.specs.declared.deck.DeckCause.TheVariants.{BadHex, OutOfRange, UnknownName}
use Rattle.desk_draft.specs.Parts.{part_in, after_word, with_core}

-- what a statement needs of a section: its AID as it was written, and the sizes of its static bytes and of its session
pub record Loadable : Type 0 where
  pub aid : List ℕ
  pub fixed : ℕ
  pub session : ℕ

-- ---- the fields of a command

-- the number of bytes of a field and the field, where it has 1 to 255 bytes
abbrev pub counted_hex : List ℕ → Option (List ℕ) → Result (List ℕ) DeckCause
counted_hex t None = Err BadHex
counted_hex t (Some []) = Err BadHex
counted_hex t (Some (b ∷ bs)) = only_if (nat_le (length (b ∷ bs)) 255) OutOfRange (hex_text (length (b ∷ bs) ∷ []) ++ t)

-- a field of whole bytes, as it was written
abbrev pub plain_hex : List ℕ → Option (List ℕ) → Result (List ℕ) DeckCause
plain_hex t None = Err BadHex
plain_hex t (Some bytes) = Ok t

-- what stands after an opening bracket, if it begins a text
abbrev pub after_open : List ℕ → Option (List ℕ)
after_open [] = None
after_open (c ∷ t) = cond (c == 40) (Some t) None

-- what stands in round brackets, if they are around a field
abbrev pub text_in_brackets : List ℕ → Option (List ℕ)
text_in_brackets t = cond (slice_index t (length t - 1) == 41) (after_open (take (length t - 1) t)) None

-- a field of a command in brackets, or without
abbrev pub field_by : List ℕ → Option (List ℕ) → Result (List ℕ) DeckCause
field_by t None = plain_hex t (hex_bytes t)
field_by t (Some inner) = counted_hex inner (hex_bytes inner)

-- what a field of a command becomes
abbrev pub command_field : List ℕ → Result (List ℕ) DeckCause
command_field t = field_by t (text_in_brackets t)

-- the fields of a command, joined
abbrev pub command_text : List (List ℕ) → Result (List ℕ) DeckCause
command_text [] = Ok []
command_text (t ∷ ts) = do
  first ← command_field t
  ok_as (λ rest. first ++ rest) (command_text ts)

-- ---- statements

-- the words whose field may be the name of a section
abbrev pub naming_words : List (List ℕ)
naming_words = codes "select" ∷ codes "delete" ∷ codes "dump" ∷ []

-- whether a field is an AID
abbrev pub is_aid : List ℕ → Bool
is_aid t = is_within 5 16 (length (unwrap_or (hex_bytes t) []))

-- the sizes of a section after its name
abbrev pub load_text : List ℕ → Loadable → List ℕ
load_text name s = name ++ codes " " ++ decimal s.fixed ++ codes " " ++ decimal s.session

-- a section's AID in the place of its name
abbrev pub aid_text : List ℕ → Option Loadable → List ℕ
aid_text t None = t
aid_text t (Some s) = s.aid

-- what a field becomes that is an AID, or a section's name, or neither
abbrev pub aid_or_name : List (List ℕ × Loadable) → List ℕ → List ℕ
aid_or_name sections t = cond (is_aid t) t (aid_text t (lookup sections t))

-- what the one field of a statement becomes, by its word
abbrev pub one_field_text : List (List ℕ × Loadable) → List ℕ → List ℕ → Result (List ℕ) DeckCause
one_field_text sections word t =
    cond (bytes_eq word (codes "load")) (ok_as (load_text t) (ok_or (lookup sections t) UnknownName)) (
    cond (has_name word naming_words) (Ok (aid_or_name sections t)) (Ok t)
    )

-- the one field of a list that has one
abbrev pub only_of : List (List ℕ) → Option (List ℕ)
only_of (t ∷ []) = Some t
only_of fields = None

-- what stands after the word of a statement other than `apdu` becomes, by its one field
abbrev pub only_text : List (List ℕ × Loadable) → List ℕ → List ℕ → Option (List ℕ) → Result (List ℕ) DeckCause
only_text sections word rest None = Ok rest
only_text sections word rest (Some t) = one_field_text sections word t

-- what stands after the word of a statement other than `apdu` becomes, by its fields
abbrev pub named_text : List (List ℕ × Loadable) → List ℕ → List (List ℕ) → List ℕ → Result (List ℕ) DeckCause
named_text sections word fields rest = only_text sections word rest (only_of fields)

-- what stands after the word of a statement becomes, by its fields
abbrev pub stated_text : List (List ℕ × Loadable) → List (List ℕ) → List ℕ → Result (List ℕ) DeckCause
stated_text sections [] rest = Ok rest
stated_text sections (word ∷ fs) rest =
    cond (bytes_eq word (codes "apdu")) (command_text (fields rest)) (named_text sections word fs rest)

-- the deck's line of a statement, where these sections stand before it
unfoldable pub statement_text : List (List ℕ × Loadable) → List ℕ → Result (List ℕ) DeckCause
statement_text sections l =
    let f = part_in l (after_word l) in
    ok_as (with_core f) (stated_text sections (fields l) f.core)
