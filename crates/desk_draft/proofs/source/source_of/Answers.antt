use Rattle.std.proofs.Common.{◌∙◌, ℕ, List, Option, ap, refl, subst, sym}
use Rattle.std.specs.Prelude.{map}
use Rattle.std.specs.Global.{Vec}
use Rattle.mc_text.specs.model_text.specs.Assembly.{assembled_lines}
use Rattle.desk_draft.specs.declared.draft.SourceLine.{SourceLine}
use Rattle.desk_draft.specs.declared.source.Source.{Source}
use Rattle.desk_draft.specs.Sources.{Assembles, spans_from}
use Rattle.desk_draft.specs.Written.{line_value, section_value}
use Rattle.desk_draft.proofs.CodeLemmas.{program, source_made, source_unmade}
use Rattle.desk_draft.proofs.source.source_of.Goals as goal

pub returns-in_ok-lines-in-Some : goal.returns-in_ok-lines-in-Some
returns-in_ok-lines-in-Some c =
    let deck = c.args.deck.now in
    let made : Source = record { name = c.args.section.now.name; sizes = c.args.section.now.sizes; code = c.in-Some.code; lines = c.in_ok-lines-in-Some.lines } in
    let code = subst (λ (o : Option (Vec ℕ)). Assembles o (assembled_lines (program deck c.as_slice.result.now))) c.in-Some.is c.in_ok-code.ensures in
    source_made (section_value deck c.args.section.now) made refl refl (ap (λ (ls : List SourceLine). assembled_lines (program deck ls)) (sym c.as_slice.ensures.value) ∙ code)
    (c.in_ok-lines-in-Some.ensures ∙ ap (λ (ls : List SourceLine). spans_from 0 (map (line_value deck) ls)) c.as_slice-in-Some.ensures.value)

pub returns-in-None : goal.returns-in-None
returns-in-None c =
    let deck = c.args.deck.now in
    let made : Source = record { name = c.args.section.now.name; sizes = c.args.section.now.sizes; code = c.new.result; lines = c.new-in-None.result } in
    let code = subst (λ (o : Option (Vec ℕ)). Assembles o (assembled_lines (program deck c.as_slice.result.now))) c.in-None.is c.in_ok-code.ensures in
    source_unmade (section_value deck c.args.section.now) made refl refl (code.0, ap (λ (ls : List SourceLine). assembled_lines (program deck ls)) (sym c.as_slice.ensures.value) ∙ code.1) c.new.ensures.items c.new-in-None.ensures.items
