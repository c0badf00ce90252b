use Rattle.std.proofs.Common.{◌∙◌, ℕ, List, ap, subst, sym}
use Rattle.std.specs.Option.{option_copied}
use Rattle.desk_draft.specs.Declarations.{NameMeaning}
use Rattle.desk_draft.specs.Drafts.{by_name, rule_names}
use Rattle.desk_draft.specs.Views.{AreNames}
use Rattle.desk_draft.proofs.RuleLemmas.{names_header, names_known}
use Rattle.desk_draft.proofs.draft.push_ruled.Goals as goal

pub returns-in-Some : goal.returns-in-Some
returns-in-Some c = λ b h.
    c.push_rule.ensures (by_name b.sections) (rule_names b.rules) h.sections (names_known c.args.known.now b.sections b.rules c.in-Some.names.now h (sym c.get.ensures.value ∙ ap option_copied c.in-Some.is))

pub returns-in-None : goal.returns-in-None
returns-in-None c = λ b h.
    let same = names_header c.args.known.now b.sections b.rules h (sym c.get.ensures.value ∙ ap option_copied c.in-None.is) in
    c.push_rule-in-None.ensures (by_name b.sections) (rule_names b.rules) h.sections (subst (λ (l : List (List ℕ × NameMeaning)). AreNames c.no_names.result l) same c.no_names.ensures)
