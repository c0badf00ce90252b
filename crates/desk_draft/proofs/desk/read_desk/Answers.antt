use Rattle.std.proofs.Common.{◌≡◌, ◌∙◌, ℕ, List, Ok, ap, rules, subst, sym}
use Rattle.std.specs.Prelude.{map}
use Rattle.std.proofs.lemmas.Result.{err_from_is_err_and}
use Rattle.mc_deck.specs.model_play.specs.DeckGrammar.{deck_read}
use Rattle.mc_deck.specs.Refused.{DeckRefuses}
use Rattle.desk_draft.specs.declared.draft.Section.{Section}
use Rattle.desk_draft.specs.Listings.{Source, source_of}
use Rattle.desk_draft.specs.Written.{draft_value, section_value}
use Rattle.desk_draft.proofs.DeskLemmas.{deck_refused, desk_made}
use Rattle.desk_draft.proofs.desk.read_desk.Goals as goal

pub returns-in_err-deck-clause-refused : goal.returns-in_err-deck-clause-refused
returns-in_err-deck-clause-refused c =
    let p = err_from_is_err_and c.from_residual-in_err-deck.result c.from_residual-in_err-deck.ensures.1 in
    let same : c.as_slice.result.now ≡ c.in_ok-text.field-0.deck.items = search rules in
    rw (p.1, p.2) (deck_refused c.args.draft.now (draft_value c.in_ok-text.field-0) c.in_err-deck.field-0.0 c.in_ok-text.ensures.draft (subst (λ (t : List ℕ). DeckRefuses (deck_read t) c.in_err-deck.field-0.0) same c.in_err-deck.ensures.refused))

pub returns-clause-desk : goal.returns-clause-desk
returns-clause-desk c =
    let deck = c.in_ok-text.field-0.deck.items in
    let same : c.as_slice.result.now ≡ c.in_ok-text.field-0.deck.items = search rules in
    let text : c.as_slice-2.result.now ≡ c.in_ok-text.field-0.deck.items = search rules in
    let sections : c.as_slice-3.result.now ≡ c.in_ok-text.field-0.sections.items = search rules in
    let sources = c.in_ok-sources.ensures ∙ ap (λ (t : List ℕ). map source_of (map (section_value t) c.as_slice-3.result.now)) text ∙ ap (λ (ss : List Section). map source_of (map (section_value deck) ss)) sections in
    desk_made c.args.draft.now (draft_value c.in_ok-text.field-0) c.in_ok-deck.deck c.in_ok-text.ensures.draft (ap deck_read (sym same) ∙ c.in_ok-deck.ensures.lines)
    ∙ ap (λ (ss : List Source). Ok (record { deck = deck; sources = ss; lines = c.in_ok-deck.deck })) (sym sources)
