use Rattle.std.proofs.Common.{◌≡◌, true, rules}
use Rattle.mc_text.specs.model_text.specs.Text.{fields}
use Rattle.mc_deck.specs.model_play.specs.DeckGrammar.{is_data}
use Rattle.desk_draft.specs.Views.{scope_of}
use Rattle.desk_draft.proofs.DraftLemmas.{scope_by_data}
use Rattle.desk_draft.proofs.draft.scope_line.Goals as goal

pub returns-then-has_data : goal.returns-then-has_data
returns-then-has_data c = λ l h.
    let is : is_data (fields c.args.line.now) ≡ true = search rules in
    scope_by_data (scope_of c.args.scope.now l) c.args.line.now c.args.deck.now.items c.data_line.new.deck.items c.args.later (is_data (fields c.args.line.now)) c.data_line.new.scope c.data_line.result is (c.data_line.ensures l c.args.later h)
