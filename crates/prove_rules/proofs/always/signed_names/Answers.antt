use Rattle.std.proofs.Common.{refl}
use Rattle.mc_text.specs.model_text.specs.Text.{fields}
use Rattle.model_rule_text.specs.model_play.specs.declared.deck.DeckCause.TheVariants.{BadLine}
use Rattle.model_rule_text.specs.Reading.{terms_of}
use Rattle.prove_rules.proofs.AlwaysLemmas.{name_missing, sign_refused, terms_done, terms_step}
use Rattle.prove_rules.proofs.RefusalLemmas.{deck_faulty}
use Rattle.prove_rules.proofs.always.signed_names.Goals as goal

pub returns-in_default-sign_of-clause-refused : goal.returns-in_default-sign_of-clause-refused
returns-in_default-sign_of-clause-refused c =
    deck_faulty (terms_of (fields c.args.text.now)) c.bad_line.result BadLine c.bad_line.ensures
    (sign_refused (fields c.args.text.now) (fields c.loop-sign.rest.now) c.loop-sign.names.items c.in-Some.sign.now (fields c.in-Some.after.now) c.in-Some.ensures.parts c.in_default-sign_of.ensures c.loop-sign.invariant)

pub returns-in_default-first_field-clause-refused : goal.returns-in_default-first_field-clause-refused
returns-in_default-first_field-clause-refused c =
    deck_faulty (terms_of (fields c.args.text.now)) c.bad_line-in_default-first_field.result BadLine c.bad_line-in_default-first_field.ensures
    (name_missing (fields c.args.text.now) (fields c.loop-sign.rest.now) c.loop-sign.names.items c.in-Some.sign.now (fields c.in-Some.after.now) c.in-Some.ensures.parts c.in_default-first_field.ensures.parts c.loop-sign.invariant)

pub returns-clause-terms : goal.returns-clause-terms
returns-clause-terms c = terms_done (fields c.args.text.now) (fields c.loop-sign.rest.now) c.loop-sign.names.items c.in_default.ensures.parts c.loop-sign.invariant

pub loop-sign-preserved : goal.loop-sign-preserved
loop-sign-preserved c =
    terms_step (fields c.args.text.now) (fields c.loop-sign.rest.now) c.loop-sign.names.items c.push.new.list.items c.in-Some.sign.now c.in-Some-first_field.name.now (fields c.in-Some-first_field.after.now) (fields c.in-Some.after.now)
    (record { minus = c.in-Some-sign_of.minus; name = c.in-Some-first_field.name }) c.in-Some.ensures.parts c.in-Some-first_field.ensures.parts c.in-Some-sign_of.ensures refl c.in_ok-push.ensures c.loop-sign.invariant
