use Rattle.std.proofs.Common.{◌++◌, ◌∙◌, ap}
use Rattle.desk_draft.specs.Parts.{before_rest}
use Rattle.desk_draft.specs.Rules.{moved_text}
use Rattle.desk_draft.proofs.PushLemmas.{pushes_after}
use Rattle.desk_draft.proofs.rule.push_move.Goals as goal

pub returns : goal.returns
returns c = λ l h.
    pushes_after c.args.deck.now.items (before_rest c.args.line.now c.args.statement.now) c.push.new.text.items c.push_moved.new.deck.items (moved_text l c.args.statement.now) c.push_moved.result (c.in_ok-push.ensures ∙ ap (λ x. c.args.deck.now.items ++ x) c.before_rest.ensures) (c.push_moved.ensures l h)
