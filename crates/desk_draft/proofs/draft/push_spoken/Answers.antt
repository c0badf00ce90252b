use Rattle.std.proofs.Common.{◌≡◌, true, false, rules}
use Rattle.std.specs.Prelude.{◌&&◌}
use Rattle.desk_draft.specs.Drafts.{by_name}
use Rattle.desk_draft.specs.Rules.{is_rule}
use Rattle.desk_draft.proofs.DraftLemmas.{ruled_pushed, statement_pushed}
use Rattle.desk_draft.proofs.draft.push_spoken.Goals as goal

pub returns-then-is_ruled : goal.returns-then-is_ruled
returns-then-is_ruled c = λ b h.
    let is : (c.args.known.now.is_draft && is_rule c.args.line.now) ≡ true = search rules in
    ruled_pushed b c.args.line.now c.args.deck.now.items c.push_ruled.new.deck.items c.args.known.now.is_draft c.push_ruled.result h.is_draft is (c.push_ruled.ensures b h)

pub returns : goal.returns
returns c = λ b h.
    let is : (c.args.known.now.is_draft && is_rule c.args.line.now) ≡ false = search rules in
    statement_pushed b c.args.line.now c.args.deck.now.items c.push_statement.new.deck.items c.args.known.now.is_draft c.push_statement.result h.is_draft is (c.push_statement.ensures (by_name b.sections) h.sections)
