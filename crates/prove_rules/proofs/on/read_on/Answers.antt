use Rattle.std.proofs.Common.{refl}
use Rattle.std.proofs.lemmas.Result.{err_from_is_err_and}
use Rattle.mc_text.specs.model_text.specs.Text.{fields}
use Rattle.model_rule_text.specs.model_play.specs.declared.deck.DeckCause.TheVariants.{BadLine}
use Rattle.model_rule_text.specs.Reading.{on_line}
use Rattle.prove_rules.specs.Parts.{event_value}
use Rattle.prove_rules.proofs.OnLemmas.{effect_refused, head_refused, no_event, on_read, other_event}
use Rattle.prove_rules.proofs.RefusalLemmas.{deck_faulty}
use Rattle.prove_rules.proofs.on.read_on.Goals as goal

pub returns-in_default-clause-refused : goal.returns-in_default-clause-refused
returns-in_default-clause-refused c = λ a are.
    deck_faulty (on_line a c.args.line (fields c.args.text.now)) c.bad_line.result BadLine c.bad_line.ensures (no_event a c.args.line (fields c.args.text.now) c.in_default.ensures.parts)

pub returns-in_default-event_named-clause-refused : goal.returns-in_default-event_named-clause-refused
returns-in_default-event_named-clause-refused c = λ a are.
    deck_faulty (on_line a c.args.line (fields c.args.text.now)) c.bad_line-in_default-event_named.result BadLine c.bad_line-in_default-event_named.ensures
    (other_event a c.args.line (fields c.args.text.now) (fields c.in-Some.after.now) c.in-Some.word.now c.in-Some.ensures.parts c.in_default-event_named.ensures)

pub returns-in_err-head-clause-refused : goal.returns-in_err-head-clause-refused
returns-in_err-head-clause-refused c =
    let p = err_from_is_err_and c.from_residual.result c.from_residual.ensures.1 in
    rw (p.1, p.2) (λ a are. head_refused a c.args.line (fields c.args.text.now) (fields c.in-Some.after.now) c.in-Some.word.now (event_value c.in-Some-event_named.event) c.in_err-head.field-0.0 c.in-Some.ensures.parts c.in-Some-event_named.ensures
    (c.in_err-head.ensures.refused a c.args.line))

pub returns-in_err-effect-clause-refused : goal.returns-in_err-effect-clause-refused
returns-in_err-effect-clause-refused c =
    let p = err_from_is_err_and c.from_residual-in_err-effect.result c.from_residual-in_err-effect.ensures.1 in
    let head = c.in_ok-head.ensures.head in
    rw (p.1, p.2) (λ a are. effect_refused a c.args.line (fields c.args.text.now) (fields c.in-Some.after.now) c.in-Some.word.now c.in-Some-event_named.event c.in_ok-head.head c.in_err-effect.field-0.0 c.in-Some.ensures.parts c.in-Some-event_named.ensures
    head (c.in_err-effect.ensures.refused a c.args.line head.trigger are head.timely))

pub returns-clause-read : goal.returns-clause-read
returns-clause-read c = λ a are.
    on_read a c.args.rules.now c.args.line c.in-Some-event_named.event (fields c.args.text.now) (fields c.in-Some.after.now) c.in-Some.word.now c.in_ok-head.head
    (record {
      line = c.args.line;
      event = c.in-Some-event_named.event;
      pattern = c.in_ok-head.head.pattern;
      result = c.in_ok-head.head.result;
      effect = c.in_ok-effect.effect;
      name = c.in_ok-effect.name;
    })
    are c.in-Some.ensures.parts c.in-Some-event_named.ensures c.in_ok-head.ensures.head refl refl refl refl c.in_ok-effect.ensures.effect
