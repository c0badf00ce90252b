use Rattle.std.proofs.Common.{◌≡◌, ◌∙◌, ◌<◌, ◌≤◌, ℕ, List, length, Ok, ap, rules, subst, sym}
use Rattle.std.specs.Prelude.{map}
use Rattle.std.proofs.lemmas.Result.{err_from_is_err_and}
use Rattle.mc_deck.specs.model_play.specs.DeckGrammar.{deck_read}
use Rattle.desk_draft.specs.Listings.{Source, source_of}
use Rattle.desk_draft.specs.Written.{section_value}
use Rattle.mc_filter.specs.Inputs.{input_limit, refused_deck, Rejects}
use Rattle.meldesk.specs.Running.{draft_with}
use Rattle.meldesk.proofs.RunLemmas.{desk_made, desk_rejected, is_short, long_rejected}
use Rattle.meldesk.proofs.running.desk_with.Goals as goal

pub returns-then-len-gt-INPUT_LIMIT-clause-rejected : goal.returns-then-len-gt-INPUT_LIMIT-clause-rejected
returns-then-len-gt-INPUT_LIMIT-clause-rejected c =
    λ draft h.
    let many : input_limit < length c.args.text.items = search rules in
    long_rejected draft (draft_with c.args.text.items c.args.sections.now) c.too_long.result h many c.too_long.ensures

pub returns-in_err-deck-clause-rejected : goal.returns-in_err-deck-clause-rejected
returns-in_err-deck-clause-rejected c =
    let p = err_from_is_err_and c.from_residual.result c.from_residual.ensures.1 in
    let e = c.in_err-deck.field-0.0 in
    let same : c.as_slice.result.now ≡ c.args.text.items = search rules in
    let few : length c.args.text.items ≤ input_limit = search rules in
    rw (p.1, p.2) (λ draft h. desk_rejected draft (draft_with c.args.text.items c.args.sections.now) e h few (subst (λ (t : List ℕ). Rejects (refused_deck (deck_read t)) e) same c.in_err-deck.ensures.rejected))

pub returns-clause-desk : goal.returns-clause-desk
returns-clause-desk c =
    λ draft h.
    let deck = c.args.text.items in
    let same : c.as_slice.result.now ≡ deck = search rules in
    let text : c.as_slice-2.result.now ≡ deck = search rules in
    let sources = c.in_ok-sources.ensures ∙ ap (λ (t : List ℕ). map source_of (map (section_value t) c.args.sections.now)) text in
    desk_made draft (draft_with deck c.args.sections.now) c.in_ok-deck.deck h (ap deck_read (sym same) ∙ c.in_ok-deck.ensures.deck)
    ∙ ap (λ (ss : List Source). Ok (record { deck = deck; sources = ss; lines = c.in_ok-deck.deck })) (sym sources)

pub returns-clause-short : goal.returns-clause-short
returns-clause-short c =
    λ draft h.
    let few : length c.args.text.items ≤ input_limit = search rules in
    is_short draft (draft_with c.args.text.items c.args.sections.now) h few
