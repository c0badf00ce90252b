use Rattle.std.proofs.Common.{◌++◌, ◌∷◌, [], List, refl, subst, sym}
use Rattle.desk_draft.specs.Drafts.{closed_section}
use Rattle.desk_draft.specs.declared.draft.Section.{Section}
use Rattle.desk_draft.specs.Written.{Each, IsSection}
use Rattle.desk_draft.proofs.WrittenLemmas.{sections_more}
use Rattle.desk_draft.proofs.draft.close_section.Goals as goal

pub returns-clause-sections : goal.returns-clause-sections
returns-clause-sections c = λ deck ss t h e k.
    let made : Section = record { name = c.args.section.name; sizes = c.sizes_of-sizes.result; lines = c.args.section.lines } in
    subst (λ (x : List Section). Each (IsSection deck) x (ss ++ closed_section t ∷ [])) (sym c.in_ok-push.ensures.items)
    (sections_more deck c.args.writer.now.sections.items ss made c.args.section t refl (c.sizes_of-sizes.ensures t h) refl h e k)

pub returns-clause-kept : goal.returns-clause-kept
returns-clause-kept c = λ ss r t h s. c.in_ok-end_section.ensures ss r t h s.name (c.sizes_of-sizes.ensures t s) s.names
