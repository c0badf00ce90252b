use Rattle.std.proofs.Common.{◌≡◌, ◌-◌, ◌++◌, ◌∙◌, ap, rules}
use Rattle.desk_draft.specs.Views.{scope_of, text_by}
use Rattle.desk_draft.proofs.DraftLemmas.{declaration_turned}
use Rattle.desk_draft.proofs.draft.declaration_line.Goals as goal

pub returns : goal.returns
returns c = λ l line w fs h g.
    let added : c.saturating_sub.result ≡ c.take_declaration.new.scope.fixed - c.args.scope.now.fixed = search rules in
    declaration_turned (scope_of c.args.scope.now l) line c.args.deck.now.items c.push_declaration.new.deck.items c.args.later c.take_declaration.new.scope c.args.declaration.now w fs g (c.in_ok-take_declaration.ensures l h)
    (c.in_ok-push_declaration.ensures ∙ ap (λ n. c.args.deck.now.items ++ text_by c.args.later n c.args.declaration.now) added)
