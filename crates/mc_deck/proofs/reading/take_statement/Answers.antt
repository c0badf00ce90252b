use Rattle.std.proofs.Common.{length, true, refl, sym, subst, None}
use Rattle.model_play.specs.DeckGrammar.{turn_of}
use Rattle.mc_deck.specs.declared.statement.Statement.{Statement}
use Rattle.mc_deck.specs.Statements.{grammar_statement, StatementFits}
use Rattle.mc_deck.specs.Readers.{TurnTaken}
use Rattle.mc_deck.proofs.ReaderLemmas.{took_line, took_power}
use Rattle.mc_deck.proofs.reading.take_statement.Goals as goal

pub returns-in_ok-push_line-in-Line-clause-took : goal.returns-in_ok-push_line-in-Line-clause-took
returns-in_ok-push_line-in-Line-clause-took c = λ d s.
    let old = c.args.reader.now in
    let fits = subst (λ (s : Statement). StatementFits (length old.names.units.items) old.powered s) c.in-Line.is c.requires in
    subst (λ (s : Statement). TurnTaken old (record { names = old.names; powered = old.powered; lines = c.push_line.new.lines }) None (turn_of c.args.number (grammar_statement old.names.units.items d c.args.number s))) (sym c.in-Line.is)
    (took_line old (record { names = old.names; powered = old.powered; lines = c.push_line.new.lines }) d c.args.number c.in-Line.line s fits.0 fits.1 refl refl refl c.in_ok-push_line-in-Line.ensures.lines)

pub returns-in_ok-push_line-in-Power-clause-took : goal.returns-in_ok-push_line-in-Power-clause-took
returns-in_ok-push_line-in-Power-clause-took c = λ d s.
    let old = c.args.reader.now in
    subst (λ (s : Statement). TurnTaken old (record { names = old.names; powered = true; lines = c.push_line-in-Power.new.lines }) None (turn_of c.args.number (grammar_statement old.names.units.items d c.args.number s))) (sym c.in-Power.is)
    (took_power old (record { names = old.names; powered = true; lines = c.push_line-in-Power.new.lines }) d c.args.number s refl refl refl c.in_ok-push_line-in-Power.ensures.lines)
