-- The code of the sections of a draft line by line, and the listing of a draft.
use Rattle.std.specs.Prelude.{ℕ, ◌+◌, Bool, cond, not, ◌&&◌, nat_lt, nat_le, List, [], ◌∷◌, ◌++◌, map, filter, flat_map, length, codes, decimal, Option, Some, None, Result, Ok, Err}
use Rattle.mc_text.specs.model_device.specs.Bytes.{bytes2}
use Rattle.mc_text.specs.model_text.specs.declared.assembler.AsmCause.{AsmCause}
use Rattle.mc_text.specs.model_text.specs.Text.{◌>>=◌, ok_as, fields, is_empty, trim}
use Rattle.mc_text.specs.model_text.specs.Listing.{hex_text}
use Rattle.mc_text.specs.model_text.specs.Assembly.{Laid, Placed, laid_lines, joined_code, bytes_of_item}
use Rattle.mc_deck.specs.model_play.specs.DeckGrammar.{DeckLine, is_data, section_program, deck_read}
use Rattle.mc_deck.specs.model_play.specs.declared.deck.DeckCause.{DeckCause}
use Rattle.desk_draft.specs.Parts.{without_comment}
use Rattle.desk_draft.specs.Statements.{Loadable}
use Rattle.desk_draft.specs.Drafts.{SourceLine, Section, Draft, draft_read}

-- a line of a section that has code: its number, the place of its code, the code, and its text without comment and
-- blanks
pub record CodeLine : Type 0 where
  pub number : ℕ
  pub place : ℕ
  pub bytes : List ℕ
  pub text : List ℕ

-- a section with its code: its name, what a `load` of it stands for, the code, and the lines that have some of it, in
-- order
pub record Source : Type 0 where
  pub name : List ℕ
  pub sizes : Loadable
  pub code : List ℕ
  pub lines : List CodeLine

-- ---- the code of a section

-- the value of an answer, an empty list where there is none
abbrev pub value_or_nothing : {A E : Type 0} → Result (List A) E → List A
value_or_nothing (Ok a) = a
value_or_nothing (Err e) = []

-- the lines of a section that go to the assembler
abbrev pub program_lines : List SourceLine → List SourceLine
program_lines ls = filter (λ l. not (is_data (fields l.deck))) ls

-- those lines as the assembler reads them, as the deck has them
abbrev pub program_of : Section → List (ℕ × List ℕ)
program_of s = section_program (map (λ l. (l.number, l.deck)) s.lines)

-- a line in its place with its code, and its text without its comment and without blanks at both ends
abbrev pub code_line : List (List ℕ × ℕ) → SourceLine → Placed → CodeLine
code_line labels l p =
    record {
      number = l.number;
      place = p.place;
      bytes = value_or_nothing (bytes_of_item labels p.place p.item);
      text = trim (without_comment l.draft);
    }

-- lines in their places with their code
abbrev pub lines_in_place : List (List ℕ × ℕ) → List SourceLine → List Placed → List CodeLine
lines_in_place labels [] ps = []
lines_in_place labels (l ∷ ls) [] = []
lines_in_place labels (l ∷ ls) (p ∷ ps) = code_line labels l p ∷ lines_in_place labels ls ps

-- the lines that have code
abbrev pub code_lines : List SourceLine → Laid → List CodeLine
code_lines ls laid = filter (λ c. not (is_empty c.bytes)) (lines_in_place laid.labels (program_lines ls) laid.placed)

-- the lines of a program in their places, with its code, or the first refusal
unfoldable pub laid_code : List (ℕ × List ℕ) → Result (Laid × List ℕ) (ℕ × AsmCause)
unfolding laid_lines joined_code
laid_code ls = laid_lines [] 0 ls >>= λ laid. ok_as (λ code. (laid, code)) (joined_code laid.labels laid.placed)

-- a section with its code, none where the assembler refuses it
abbrev pub source_with : Section → Result (Laid × List ℕ) (ℕ × AsmCause) → Source
source_with s (Ok (laid, code)) =
    record { name = s.name; sizes = s.sizes; code = code; lines = code_lines s.lines laid }
source_with s (Err e) = record { name = s.name; sizes = s.sizes; code = []; lines = [] }

-- a section with its code, which is what the assembler makes of its lines
unfoldable pub source_of : Section → Source
unfolding laid_code
source_of s = source_with s (laid_code (program_of s))

-- the sections of a draft with their code
abbrev pub sources_of : Draft → List Source
sources_of d = map source_of d.sections

-- whether the code of a line has the byte at a place
abbrev pub has_byte_at : CodeLine → ℕ → Bool
has_byte_at l at = nat_le l.place at && nat_lt at (l.place + length l.bytes)

-- the line whose code has the byte at a place, if one has it
abbrev pub line_at : List CodeLine → ℕ → Option CodeLine
line_at [] at = None
line_at (l ∷ ls) at = cond (has_byte_at l at) (Some l) (line_at ls at)

-- ---- the listing

-- a line in the listing: its place, its code, its number and its text
abbrev pub listing_line : CodeLine → List ℕ
listing_line l =
    hex_text (bytes2 l.place) ++ codes " " ++ hex_text l.bytes ++ codes " " ++ decimal l.number ++ codes " " ++ l.text
    ++ codes "\n"

-- the first line of a section in the listing
abbrev pub listing_head : Source → List ℕ
listing_head s =
    codes "app " ++ s.name ++ codes " " ++ s.sizes.aid ++ codes " code " ++ decimal (length s.code)
    ++ codes " static " ++ decimal s.sizes.fixed ++ codes " session " ++ decimal s.sizes.session ++ codes "\n"

-- the listing of sections
abbrev pub listing_of : List Source → List ℕ
listing_of ss = flat_map (λ s. listing_head s ++ flat_map listing_line s.lines) ss

-- ---- drafts whose deck is read

-- a draft whose deck is read: its sections with their code, and the lines of its deck
pub record Desk : Type 0 where
  pub deck : List ℕ
  pub sources : List Source
  pub lines : List (ℕ × DeckLine)

-- a draft and its deck, or the first line that is refused as a draft's, else as its deck's
unfoldable pub desk_read : List ℕ → Result Desk (ℕ × DeckCause)
unfolding draft_read deck_read source_of
desk_read t = do
  d ← draft_read t
  ls ← deck_read d.deck
  Ok (record { deck = d.deck; sources = sources_of d; lines = ls })

-- the listing of a draft, or its first refused line and the cause
unfoldable pub draft_listing : List ℕ → Result (List ℕ) (ℕ × DeckCause)
unfolding desk_read
draft_listing t = ok_as (λ d. listing_of d.sources) (desk_read t)
