use Rattle.std.proofs.Common.{[], codes}
use Rattle.desk_steps.specs.Sheets.{adds_on}
use Rattle.desk_steps.proofs.sheet.Sheet.end_line.Goals as goal

pub returns-clause-adds : goal.returns-clause-adds
returns-clause-adds g c = adds_on g.T.Sink c.args.self.now c.add.new.self c.flush.new.self (codes "}\n") [] c.add.ensures c.flush.ensures.adds
