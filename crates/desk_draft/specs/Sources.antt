-- The code of sections as the code keeps it: of each line its place and the number of its bytes.
use Rattle.std.specs.Prelude.{◌≡◌, ℕ, ◌+◌, ◌==◌, cond, min, List, [], ◌∷◌, ◌++◌, map, take, drop, Option, Some, None, Result, Ok, Err}
use Rattle.std.specs.Global.{Vec}
use Rattle.mc_text.specs.model_text.specs.declared.assembler.AsmCause.{AsmCause}
use Rattle.mc_text.specs.model_text.specs.Text.{fields, ok_as, trim}
use Rattle.mc_text.specs.model_text.specs.Assembly.{line_read, size}
use Rattle.mc_deck.specs.model_play.specs.DeckGrammar.{is_data}
use Rattle.desk_draft.specs.declared.source.CodeLine.{CodeLine}
use Rattle.desk_draft.specs.declared.source.Source.{Source}
use Rattle.desk_draft.specs.Parts.{without_comment}
use Rattle.desk_draft.specs.Drafts
use Rattle.desk_draft.specs.Listings
use Rattle.desk_draft.specs.Views.{loadable_of}

-- ---- values

-- a line that has code, which is some bytes of this code
abbrev pub code_line_value : List ℕ → CodeLine → Listings.CodeLine
code_line_value code l =
    record { number = l.number; place = l.place; bytes = take l.size (drop l.place code); text = l.text.now }

-- a section with its code
abbrev pub source_value : Source → Listings.Source
source_value s =
    record {
      name = s.name.now;
      sizes = loadable_of s.sizes;
      code = s.code.items;
      lines = map (code_line_value s.code.items) s.lines.items;
    }

-- sections with their code
abbrev pub sources_value : List Source → List Listings.Source
sources_value ss = map source_value ss

-- ---- the places of lines

-- where a line's bytes are: its number, its place, the number of its bytes, and its text
pub record Span : Type 0 where
  pub number : ℕ
  pub place : ℕ
  pub size : ℕ
  pub text : List ℕ

-- where the bytes of a line that has code are
abbrev pub span_of : CodeLine → Span
span_of l = record { number = l.number; place = l.place; size = l.size; text = l.text.now }

-- a line with its bytes, which are some of this code
abbrev pub spelled : List ℕ → Span → Listings.CodeLine
spelled code s = record { number = s.number; place = s.place; bytes = take s.size (drop s.place code); text = s.text }

-- a number of bytes, 0 for a line that is refused
abbrev pub size_or_zero : Result ℕ AsmCause → ℕ
size_or_zero (Ok n) = n
size_or_zero (Err e) = 0

-- the number of bytes of a line for the assembler
abbrev pub line_size : List ℕ → ℕ
line_size t = size_or_zero (ok_as (λ l. size l.item) (line_read t))

-- the number of bytes that a line of a section puts into the code
abbrev pub size_in_section : List ℕ → ℕ
size_in_section t = cond (is_data (fields t)) 0 (line_size t)

-- where the bytes of a line are, if it has some
abbrev pub one_span : ℕ → ℕ → List ℕ → ℕ → List Span
one_span number place draft n =
    cond (n == 0) [] (record { number = number; place = place; size = n; text = trim (without_comment draft) } ∷ [])

-- the place after some bytes, at most the greatest number of two bytes
abbrev pub place_after : ℕ → ℕ → ℕ
place_after place n = min (place + n) 65535

-- where the bytes of lines are, from a place on
abbrev pub spans_from : ℕ → List Drafts.SourceLine → List Span
spans_from place [] = []
spans_from place (l ∷ ls) =
    let n = size_in_section l.deck in
    one_span l.number place l.draft n ++ spans_from (place_after place n) ls

-- code is that of the assembler, or the assembler refuses
abbrev pub Assembles : Option (Vec ℕ) → Result (List ℕ) (ℕ × AsmCause) → Type 0
Assembles (Some code) r = r ≡ Ok code.items
Assembles None r = (e : ℕ × AsmCause) × (r ≡ Err e)
