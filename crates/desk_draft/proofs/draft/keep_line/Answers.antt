use Rattle.std.proofs.Common.{◌≡◌, ◌++◌, ◌∷◌, [], List, length, refl, rules, subst, sym}
use Rattle.desk_draft.specs.Drafts
use Rattle.desk_draft.specs.declared.draft.SourceLine.{SourceLine}
use Rattle.desk_draft.specs.Written.{Each, IsSourceLine}
use Rattle.desk_draft.proofs.WrittenLemmas.{line_more}
use Rattle.desk_draft.proofs.draft.keep_line.Goals as goal

pub returns-clause-lines : goal.returns-clause-lines
returns-clause-lines c = λ ts text h e.
    let line : SourceLine = record { number = c.args.number; draft = c.args.line; start = c.len-start.result; end = c.len.result } in
    let old = c.args.deck.now.items in
    let new = c.scope_line.new.deck.items in
    let start : c.len-start.result ≡ length old = search rules in
    let end : c.len.result ≡ length new = search rules in
    let t : Drafts.SourceLine = record { number = c.args.number; draft = c.args.line.now; deck = text } in
    subst (λ (x : List SourceLine). Each (IsSourceLine new) x (ts ++ t ∷ [])) (sym c.in_ok-push_source_line.ensures)
    (line_more old new text c.args.section.now.lines.items ts line c.args.number c.args.line.now refl refl start end e h)
