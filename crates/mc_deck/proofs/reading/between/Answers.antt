use Rattle.std.proofs.Common.{length, Ok, ap, ◌∙◌}
use Rattle.model_play.specs.model_text.specs.Text.{fields}
use Rattle.mc_deck.proofs.TurnLemmas.{in_context, fits_some, between_none, between_some, between_err}
use Rattle.mc_deck.proofs.reading.between.Goals as goal

pub take_statement-requires : goal.take_statement-requires
take_statement-requires c =
    let old = c.args.reader.now in
    fits_some (length old.names.units.items) old.powered c.in-Ok-Some.statement c.read_line.result (c.in-Ok-Some.is ∙ ap Ok c.in-Ok-Some.field-0-is) (c.read_line.ensures.fits c.requires.0 (in_context old c.requires.0 c.requires.1))

pub returns-in-Ok-None : goal.returns-in-Ok-None
returns-in-Ok-None c = record { turned = λ d s. between_none c.args.reader.now d c.args.number (fields c.args.text.now) c.read_line.result (c.in-Ok-None.is ∙ ap Ok c.in-Ok-None.field-0-is) (c.read_line.ensures.value d (in_context c.args.reader.now d s)) s }

pub returns-in-Ok-Some : goal.returns-in-Ok-Some
returns-in-Ok-Some c = record {
  turned = λ d s.
      between_some c.args.reader.now c.take_statement.new.reader d c.args.number (fields c.args.text.now) c.in-Ok-Some.statement c.read_line.result c.take_statement.result (c.in-Ok-Some.is ∙ ap Ok c.in-Ok-Some.field-0-is) (c.read_line.ensures.value d (in_context c.args.reader.now d s)) c.take_statement.ensures.took c.take_statement.ensures.memory s;
}

pub returns-in-Err : goal.returns-in-Err
returns-in-Err c = record { turned = λ d s. between_err c.args.reader.now d c.args.number (fields c.args.text.now) c.in-Err.refusal c.read_line.result c.in-Err.is (c.read_line.ensures.value d (in_context c.args.reader.now d s)) }
