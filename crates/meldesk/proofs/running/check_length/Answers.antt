use Rattle.std.proofs.Common.{◌≡◌, ◌<◌, ◌≤◌, ℕ, List, length, IfErr, OnOk, rules, subst}
use Rattle.mc_filter.specs.Inputs.{input_limit}
use Rattle.desk_draft.specs.Written.{draft_value}
use Rattle.meldesk.proofs.RunLemmas.{long_by, short_by}
use Rattle.meldesk.proofs.running.check_length.Goals as goal

pub returns-in-Ok-clause-short : goal.returns-in-Ok-clause-short
returns-in-Ok-clause-short c =
    let same : c.as_slice.result.now ≡ c.in-Ok.read.deck.items = search rules in
    short_by c.args.draft.now (draft_value c.in-Ok.read) c.check_deck.result c.in-Ok.ensures.draft
    (subst (λ (b : List ℕ). OnOk c.check_deck.result (length b ≤ input_limit)) same c.check_deck.ensures.short)

pub returns-in-Ok-clause-rejected : goal.returns-in-Ok-clause-rejected
returns-in-Ok-clause-rejected c =
    let same : c.as_slice.result.now ≡ c.in-Ok.read.deck.items = search rules in
    long_by c.args.draft.now (draft_value c.in-Ok.read) c.check_deck.result c.in-Ok.ensures.draft
    (subst (λ (b : List ℕ). IfErr c.check_deck.result (λ e. input_limit < length b)) same c.check_deck.ensures.long) c.check_deck.ensures.rejected
