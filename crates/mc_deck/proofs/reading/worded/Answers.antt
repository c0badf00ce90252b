use Rattle.std.proofs.Common.{sym, ap, subst, ◌∙◌}
use Rattle.std.specs.Prelude.{option_map}
use Rattle.mc_asm.specs.Items.{texts}
use Rattle.model_play.specs.DeckGrammar.{statement_of}
use Rattle.mc_deck.specs.declared.refusal.Fault.{Fault}
use Rattle.mc_deck.specs.Refused.{Faulty}
use Rattle.mc_deck.specs.Statements.{keyword_of}
use Rattle.mc_deck.proofs.ReaderLemmas.{line_refused}
use Rattle.mc_deck.proofs.reading.worded.Goals as goal

pub returns-in-Err-Cause-clause-value : goal.returns-in-Err-Cause-clause-value
returns-in-Err-Cause-clause-value c = λ d h.
    line_refused d c.args.number c.args.word.now (texts c.args.fields.now) (keyword_of c.in-Some.keyword) c.in-Err-Cause.cause (sym c.is_comment.ensures ∙ c.if-is_comment.false) (ap (option_map keyword_of) (sym c.in-Some.is) ∙ c.keyword_named.ensures) (subst (λ (f : Fault). Faulty (statement_of d c.args.number (keyword_of c.in-Some.keyword) (texts c.args.fields.now)) f) c.in-Err-Cause.field-0-is (c.in-Err-Cause.ensures.value d c.args.number h))
