use Rattle.std.proofs.Common.{◌++◌, List, ℕ, ap, subst, ◌∙◌}
use Rattle.law_explore.specs.model_play.specs.DeckGrammar.{deck_read}
use Rattle.mc_deck.specs.Refused.{DeckRefuses}
use Rattle.lab_rules.proofs.MoveLemmas.{is_read, is_refused}
use Rattle.lab_rules.proofs.reading.move_deck.Goals as goal

pub returns-in-Ok : goal.returns-in-Ok
returns-in-Ok c =
    let text = c.as_slice.ensures.value ∙ c.in_ok-extend_from_slice.ensures.items ∙ ap (λ (t : List ℕ). t ++ c.args.statement.now) c.in_ok-text.ensures.items in
    λ n. is_read n c.as_slice.result.now c.args.statement.now c.in-Ok.deck text c.requires.line c.requires.word c.in-Ok.ensures.lines

pub returns-in-Err-At : goal.returns-in-Err-At
returns-in-Err-At c =
    let text = c.as_slice.ensures.value ∙ c.in_ok-extend_from_slice.ensures.items ∙ ap (λ (t : List ℕ). t ++ c.args.statement.now) c.in_ok-text.ensures.items in
    let refused = subst (DeckRefuses (deck_read c.as_slice.result.now)) c.in-Err-At.field-0-is c.in-Err-At.ensures.refused in
    λ n. is_refused n c.in-Err-At.field-0-0 c.as_slice.result.now c.args.statement.now c.in-Err-At.cause text c.requires.line c.requires.word refused
