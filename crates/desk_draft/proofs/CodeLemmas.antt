-- A section with its code, as the code keeps it.
use Rattle.std.proofs.Common.{◌≡◌, ℕ, List, [], ◌∷◌, Ok, Err, refl, sym, ap, ◌∙◌}
use Rattle.std.specs.Prelude.{map}
use Rattle.mc_text.specs.model_text.specs.declared.assembler.AsmCause.{AsmCause}
use Rattle.mc_text.specs.model_text.specs.Assembly.{assembled_lines}
use Rattle.mc_deck.specs.model_play.specs.DeckGrammar.{section_program}
use Rattle.desk_draft.specs.declared.draft.SourceLine.{SourceLine}
use Rattle.desk_draft.specs.declared.source.CodeLine.{CodeLine}
use Rattle.desk_draft.specs.declared.source.Source.{Source}
use Rattle.desk_draft.specs.Drafts
use Rattle.desk_draft.specs.Listings
use Rattle.desk_draft.specs.Listings.{program_of, source_of}
use Rattle.desk_draft.specs.Sources.{code_line_value, source_value, span_of, spans_from, spelled}
use Rattle.desk_draft.specs.Views.{loadable_of}
use Rattle.desk_draft.specs.Written.{line_value}
use Rattle.desk_draft.proofs.SourceLemmas.{source_coded, source_refused}

-- the lines of a section that go to the assembler, in a draft with this deck
abbrev pub program : List ℕ → List SourceLine → List (ℕ × List ℕ)
program deck ls = section_program (map (λ l. (l.number, l.deck)) (map (line_value deck) ls))

spans_spelled : (code : List ℕ) (ls : List CodeLine) → map (code_line_value code) ls ≡ map (spelled code) (map span_of ls)
spans_spelled code [] = refl
spans_spelled code (l ∷ ls) = ap (λ x. code_line_value code l ∷ x) (spans_spelled code ls)

source_by : (t : Drafts.Section) (s : Source) (code : List ℕ) (ls : List Listings.CodeLine) → s.name.now ≡ t.name → loadable_of s.sizes ≡ t.sizes → s.code.items ≡ code → map (code_line_value s.code.items) s.lines.items ≡ ls
    → source_value s ≡ record { name = t.name; sizes = t.sizes; code = code; lines = ls }
source_by t s code ls n z c l =
    ap (λ x. record { name = x; sizes = loadable_of s.sizes; code = s.code.items; lines = map (code_line_value s.code.items) s.lines.items }) n
    ∙ ap (λ x. record { name = t.name; sizes = x; code = s.code.items; lines = map (code_line_value s.code.items) s.lines.items }) z
    ∙ ap (λ x. record { name = t.name; sizes = t.sizes; code = x; lines = map (code_line_value s.code.items) s.lines.items }) c
    ∙ ap (λ x. record { name = t.name; sizes = t.sizes; code = code; lines = x }) l

-- a section that is assembled
pub source_made : (t : Drafts.Section) (s : Source) → s.name.now ≡ t.name → loadable_of s.sizes ≡ t.sizes → assembled_lines (program_of t) ≡ Ok s.code.items → map span_of s.lines.items ≡ spans_from 0 t.lines → source_value s ≡ source_of t
source_made t s n z c l =
    source_by t s s.code.items (map (spelled s.code.items) (spans_from 0 t.lines)) n z refl (spans_spelled s.code.items s.lines.items ∙ ap (map (spelled s.code.items)) l) ∙ sym (source_coded t s.code.items c)

-- a section that the assembler refuses
pub source_unmade : (t : Drafts.Section) (s : Source) → s.name.now ≡ t.name → loadable_of s.sizes ≡ t.sizes → ((e : ℕ × AsmCause) × (assembled_lines (program_of t) ≡ Err e)) → s.code.items ≡ [] → s.lines.items ≡ [] → source_value s ≡ source_of t
source_unmade t s n z e c l =
    source_by t s [] [] n z c (ap (map (code_line_value s.code.items)) l) ∙ sym (source_refused t e.0 e.1)
