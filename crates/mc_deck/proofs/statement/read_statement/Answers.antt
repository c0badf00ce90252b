use Rattle.std.proofs.Common.{length}
use Rattle.mc_deck.proofs.statement.read_statement.Goals as goal

pub returns-in-Format-clause-fits : goal.returns-in-Format-clause-fits
returns-in-Format-clause-fits c = λ d h. c.format_statement.ensures.fits (length c.args.names.now.units.items)

pub returns-in-Power-clause-fits : goal.returns-in-Power-clause-fits
returns-in-Power-clause-fits c = λ d h. c.power_statement.ensures.fits (length c.args.names.now.units.items)

pub returns-in-Unit-clause-fits : goal.returns-in-Unit-clause-fits
returns-in-Unit-clause-fits c = λ d h. c.unit_statement.ensures.fits (length c.args.names.now.units.items) c.args.powered

pub returns-in-App-clause-fits : goal.returns-in-App-clause-fits
returns-in-App-clause-fits c = λ d h. c.app_statement.ensures.fits (length c.args.names.now.units.items) c.args.powered

pub returns-in-Load-clause-fits : goal.returns-in-Load-clause-fits
returns-in-Load-clause-fits c = λ d h. c.load_statement.ensures.fits d c.args.powered h.named

pub returns-in-Select-clause-fits : goal.returns-in-Select-clause-fits
returns-in-Select-clause-fits c = λ d h. c.select_statement.ensures.fits (length c.args.names.now.units.items) c.args.powered

pub returns-in-Delete-clause-fits : goal.returns-in-Delete-clause-fits
returns-in-Delete-clause-fits c = λ d h. c.delete_statement.ensures.fits (length c.args.names.now.units.items) c.args.powered

pub returns-in-Dump-clause-fits : goal.returns-in-Dump-clause-fits
returns-in-Dump-clause-fits c = λ d h. c.dump_statement.ensures.fits (length c.args.names.now.units.items) c.args.powered

pub returns-in-Apdu-clause-fits : goal.returns-in-Apdu-clause-fits
returns-in-Apdu-clause-fits c = λ d h. c.apdu_statement.ensures.fits (length c.args.names.now.units.items) c.args.powered

pub returns-in-Budget-clause-fits : goal.returns-in-Budget-clause-fits
returns-in-Budget-clause-fits c = λ d h. c.budget_statement.ensures.fits (length c.args.names.now.units.items) c.args.powered

pub returns-in-Cut-clause-fits : goal.returns-in-Cut-clause-fits
returns-in-Cut-clause-fits c = λ d h. c.cut_statement.ensures.fits (length c.args.names.now.units.items) c.args.powered

pub returns-in-Fail-clause-fits : goal.returns-in-Fail-clause-fits
returns-in-Fail-clause-fits c = λ d h. c.fail_statement.ensures.fits (length c.args.names.now.units.items) c.args.powered

pub returns-in-Poke-clause-fits : goal.returns-in-Poke-clause-fits
returns-in-Poke-clause-fits c = λ d h. c.poke_statement.ensures.fits (length c.args.names.now.units.items)
