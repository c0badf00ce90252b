use Rattle.std.proofs.Common.{[]}
use Rattle.desk_steps.specs.Sheets.{adds_on}
use Rattle.desk_steps.proofs.sheet.Sheet.add.Goals as goal

pub returns : goal.returns
returns g c = adds_on g.T.Sink c.args.self.now c.make_room.new.self c.gather.new.self [] c.args.piece.now c.make_room.ensures.adds c.gather.ensures
