-- The declarations of a section: what they name, the sums of bytes so far, and what stands in their place in the deck.
use Rattle.std.specs.Prelude.{ℕ, ◌+◌, ◌-◌, ℤ, pos, negsuc, Bool, true, false, cond, not, ◌&&◌, ◌||◌, nat_lt, nat_le, ◌==◌, List, [], ◌∷◌, ◌++◌, length, codes, unwrap_or, is_none, Option, Some, None, option_map, ok_or, Result, Ok, Err}
use Rattle.mc_text.specs.model_device.specs.Bytes.{lookup, has_name, zeros}
use Rattle.mc_text.specs.model_text.specs.Text.{◌>>=◌, ok_as, only_if, begins, fields, decimal_number, hex_bytes}
use Rattle.mc_text.specs.model_text.specs.Listing.{condition_names, register_names, hex_text}
use Rattle.mc_text.specs.model_text.specs.Assembly.{is_label, signed_number}
use Rattle.mc_deck.specs.model_play.specs.DeckGrammar.{number_field, hex_field}
use Rattle.mc_text.specs.model_text.specs.Text.{is_end}
use Rattle.mc_deck.specs.model_play.specs.declared.deck.DeckCause.{DeckCause}
use Rattle.mc_deck.specs.model_play.specs.declared.deck.DeckCause.TheVariants.{BadLine, BadName, BadNumber, OutOfRange, NameTwice}
use Rattle.desk_draft.specs.Parts.{without_comment}

-- what a name stands for: bytes from an offset of a register on, by the register's tag, or a number as it was written
pub data NameMeaning : Type 0 where
  Bytes : (tag : ℕ) (at : ℤ) (size : ℕ) → NameMeaning
  Number : (text : List ℕ) → NameMeaning

-- the bytes of the command's header in the last bytes of the public segment
abbrev pub header_bytes : List (List ℕ × NameMeaning)
header_bytes =
    (codes "CLA", Bytes 7 (negsuc 12) 1) ∷
    (codes "INS", Bytes 7 (negsuc 11) 1) ∷
    (codes "P1", Bytes 7 (negsuc 10) 1) ∷
    (codes "P2", Bytes 7 (negsuc 9) 1) ∷
    (codes "P3", Bytes 7 (negsuc 8) 1) ∷ []

-- the words of the command's header: its lengths, and the status
abbrev pub header_words : List (List ℕ × NameMeaning)
header_words =
    (codes "Lc", Bytes 7 (negsuc 7) 2) ∷
    (codes "Le", Bytes 7 (negsuc 5) 2) ∷
    (codes "La", Bytes 7 (negsuc 3) 2) ∷
    (codes "SW", Bytes 7 (negsuc 1) 2) ∷ []

-- the names that are there in every section
abbrev pub header_names : List (List ℕ × NameMeaning)
header_names = header_bytes ++ header_words

-- what stands in a section before a line: its names, its static and session bytes, and the number of its DATA bytes, if
-- it has a DATA line
pub record Scope : Type 0 where
  pub names : List (List ℕ × NameMeaning)
  pub fixed : ℕ
  pub session : ℕ
  pub data_bytes : Option ℕ

-- a section before its first line
abbrev pub empty_scope : Scope
empty_scope = record { names = header_names; fixed = 0; session = 0; data_bytes = None }

-- ---- fields

-- the most static bytes, session bytes and public bytes
abbrev pub most_static : ℕ
most_static = 4096

-- the most session bytes of an application
abbrev pub most_session : ℕ
most_session = 256

-- the most public bytes
abbrev pub most_public : ℕ
most_public = 1041

-- a name has the form of a label, and is no register and no condition
abbrev pub label_name : List ℕ → Result (List ℕ) DeckCause
label_name t = only_if (is_label t && not (has_name t register_names) && not (has_name t condition_names)) BadName t

-- a decimal number of any size
abbrev pub decimal_field : List ℕ → Result ℕ DeckCause
decimal_field t = ok_or (decimal_number t) BadNumber

-- the bytes of a field that may be missing
abbrev pub optional_hex : Option (List ℕ) → Result (Option (List ℕ)) DeckCause
optional_hex None = Ok None
optional_hex (Some t) = ok_as Some (hex_field t)

-- whether a number fits in two bytes, signed or unsigned
abbrev pub fits_word : ℤ → Bool
fits_word (pos n) = nat_le n 65535
fits_word (negsuc n) = nat_lt n 32768

-- a number in a form of the assembler, which stays as it was written
abbrev pub constant : List ℕ → Result (List ℕ) DeckCause
constant t = ok_or (signed_number t) BadNumber >>= λ z. only_if (fits_word z) OutOfRange t

-- bytes that are as many as a size says, where they are given
abbrev pub is_size_of : ℕ → Option (List ℕ) → Bool
is_size_of size None = true
is_size_of size (Some bytes) = length bytes == size

-- ---- declarations

-- the words of declarations
pub data DeclarationWord : Type 0 where
  StaticWord : DeclarationWord
  SessionWord : DeclarationWord
  PublicWord : DeclarationWord
  ConstWord : DeclarationWord

-- the words that begin a declaration
abbrev pub declaration_words : List (List ℕ × DeclarationWord)
declaration_words =
    (codes "STATIC", StaticWord) ∷
    (codes "SESSION", SessionWord) ∷
    (codes "PUBLIC", PublicWord) ∷
    (codes "CONST", ConstWord) ∷ []

-- whether a colon follows a line's first word, which is a label then
abbrev pub is_labelled : List (List ℕ) → Bool
is_labelled [] = false
is_labelled (t ∷ ts) = begins 58 t

-- the declaration of a line with these fields: its word, and the fields after it
abbrev pub declaration_of : List (List ℕ) → Option (DeclarationWord × List (List ℕ))
declaration_of [] = None
declaration_of (word ∷ rest) =
    cond (is_labelled rest) None (option_map (λ w. (w, rest)) (lookup declaration_words word))

-- the declaration of a line, which a comment may follow
abbrev pub declaration_in : List ℕ → Option (DeclarationWord × List (List ℕ))
declaration_in l = declaration_of (fields (without_comment l))

-- the number of bytes of a STATIC line after as many static bytes, which is that of its HEX where it has one
abbrev pub static_count : ℕ → List ℕ → Option (List ℕ) → Result ℕ DeckCause
static_count fixed size hex = do
  bytes ← optional_hex hex
  n ← number_field 1 (most_static - fixed) size
  only_if (is_size_of n bytes) OutOfRange n

-- the place and the number of bytes of a PUBLIC line
abbrev pub public_span : List ℕ → List ℕ → Result (ℕ × ℕ) DeckCause
public_span at size = do
  at ← decimal_field at
  n ← number_field 1 most_public size
  only_if (nat_le (at + n) most_public) OutOfRange (at, n)

-- a section with one more name, which it did not have
abbrev pub with_name : Scope → List ℕ → NameMeaning → Result Scope DeckCause
with_name d name m = only_if (is_none (lookup d.names name)) NameTwice (record d { names = (name, m) ∷ d.names })

-- the next static bytes
abbrev pub static_scope : Scope → List ℕ → List ℕ → Option (List ℕ) → Result Scope DeckCause
static_scope d name size hex = do
  d ← only_if (is_none d.data_bytes) BadLine d
  name ← label_name name
  n ← static_count d.fixed size hex
  ok_as (λ (e : Scope). record e { fixed = d.fixed + n }) (with_name d name (Bytes 1 (pos d.fixed) n))

-- the next session bytes
abbrev pub session_scope : Scope → List ℕ → List ℕ → Result Scope DeckCause
session_scope d name size = do
  name ← label_name name
  n ← number_field 1 (most_session - d.session) size
  ok_as (λ (e : Scope). record e { session = d.session + n }) (with_name d name (Bytes 3 (pos d.session) n))

-- the public bytes from a place on
abbrev pub public_scope : Scope → List ℕ → List ℕ → List ℕ → Result Scope DeckCause
public_scope d name at size = do
  name ← label_name name
  p ← public_span at size
  with_name d name (Bytes 6 (pos p.0) p.1)

-- a number with a name
abbrev pub const_scope : Scope → List ℕ → List ℕ → Result Scope DeckCause
const_scope d name number = do
  name ← label_name name
  number ← constant number
  with_name d name (Number number)

-- a section after a declaration, by its word and its fields
abbrev pub scope_after : Scope → DeclarationWord → List (List ℕ) → Result Scope DeckCause
scope_after d StaticWord (name ∷ size ∷ []) = static_scope d name size None
scope_after d StaticWord (name ∷ size ∷ hex ∷ []) = static_scope d name size (Some hex)
scope_after d SessionWord (name ∷ size ∷ []) = session_scope d name size
scope_after d PublicWord (name ∷ at ∷ size ∷ []) = public_scope d name at size
scope_after d ConstWord (name ∷ number ∷ []) = const_scope d name number
scope_after d word fields = Err BadLine

-- the number of bytes of a field, none where it is no hexadecimal
abbrev pub byte_count : List ℕ → ℕ
byte_count t = length (unwrap_or (hex_bytes t) [])

-- the number of bytes of a DATA line with these fields
abbrev pub data_count : List (List ℕ) → ℕ
data_count (word ∷ hex ∷ []) = byte_count hex
data_count fields = 0

-- a section after a DATA line with these fields, of which it may have one where it has no STATIC line; the deck's
-- reader judges the rest
abbrev pub data_scope : Scope → List (List ℕ) → Result Scope DeckCause
data_scope d fields =
    only_if (d.fixed == 0) BadLine (record d { data_bytes = Some (unwrap_or d.data_bytes 0 + data_count fields) })

-- ---- the deck's line

-- the deck's line of a declaration that adds n static bytes; `later` is whether a STATIC line after it gives bytes
abbrev pub declaration_text : Bool → ℕ → DeclarationWord → List (List ℕ) → List ℕ
declaration_text later n StaticWord (name ∷ size ∷ hex ∷ []) = codes "DATA " ++ hex
declaration_text later n StaticWord (name ∷ size ∷ []) = cond later (codes "DATA " ++ hex_text (zeros n)) []
declaration_text later n word fields = []

-- whether a declaration is a STATIC line that gives bytes
abbrev pub gives : Option (DeclarationWord × List (List ℕ)) → Bool
gives (Some (StaticWord, name ∷ size ∷ hex ∷ [])) = true
gives d = false

-- whether a STATIC line of these lines gives bytes, up to the section's end
abbrev pub gives_later : List (List ℕ) → Bool
gives_later [] = false
gives_later (l ∷ ls) = not (is_end (fields l)) && (gives (declaration_in l) || gives_later ls)
