use Rattle.std.proofs.Common.{◌≡◌, ◌++◌, ◌∙◌, ℕ, List, ap, false, rules, subst, true}
use Rattle.std.specs.Prelude.{codes}
use Rattle.mc_text.specs.model_text.specs.Text.{ok_as}
use Rattle.desk_draft.specs.Parts.{after_word, before_rest}
use Rattle.desk_draft.specs.Rules.{has_second, moved_text}
use Rattle.desk_draft.specs.Views.{Pushes}
use Rattle.desk_draft.proofs.RuleLemmas.{braces_pushed, move_pushed}
use Rattle.desk_draft.proofs.rule.push_rule.Goals as goal

pub returns-then-has_second : goal.returns-then-has_second
returns-then-has_second c = λ s l h k.
    let line = c.args.line.now in
    let is : has_second line (codes "move") ≡ true = search rules in
    let two = c.after_word-then-has_second.ensures.value ∙ ap after_word c.after_word.ensures.value in
    move_pushed s l line c.args.deck.now.items c.push_move.new.deck.items c.push_move.result is
    (subst (λ (x : List ℕ). Pushes c.args.deck.now.items (ok_as (λ t. before_rest line x ++ t) (moved_text s x)) c.push_move.result c.push_move.new.deck.items) two (c.push_move.ensures s h))

pub returns : goal.returns
returns c = λ s l h k.
    let is : has_second c.args.line.now (codes "move") ≡ false = search rules in
    braces_pushed s l c.args.line.now c.args.deck.now.items c.push_braces.new.deck.items c.push_braces.result is (c.push_braces.ensures l k)
