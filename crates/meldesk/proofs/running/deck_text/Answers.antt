use Rattle.std.proofs.lemmas.Result.{err_from_is_err_and}
use Rattle.desk_draft.specs.Written.{draft_value}
use Rattle.meldesk.proofs.RunLemmas.{deck_made, deck_rejected}
use Rattle.meldesk.proofs.running.deck_text.Goals as goal

pub returns-in_err-deck : goal.returns-in_err-deck
returns-in_err-deck c =
    let p = err_from_is_err_and c.from_residual.result c.from_residual.ensures.1 in
    rw (p.1, p.2) (deck_rejected c.args.draft.now c.in_err-deck.field-0.0 c.in_err-deck.ensures.rejected)

pub returns : goal.returns
returns c = deck_made c.args.draft.now (draft_value c.in_ok-deck.field-0) c.in_ok-deck.ensures.draft
