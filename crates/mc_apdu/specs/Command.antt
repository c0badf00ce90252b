-- The parts of a command, whatever place its data are borrowed from.
use Rattle.model_machine.specs.Apdu.{ApduParts, Rest}
use Rattle.mc_apdu.specs.declared.command.Apdu.{Apdu}
use Rattle.mc_apdu.specs.declared.command.Fields.{Fields}

-- the parts of a command: CLA, INS, P1, P2, P3, its data and Le
abbrev pub parts_of : Apdu → ApduParts
parts_of a = record { cla = a.cla; ins = a.ins; p1 = a.p1; p2 = a.p2; p3 = a.p3; body = a.body.now; le = a.le }

-- the parts after its header: P3, its data and Le
abbrev pub rest_of : Fields → Rest
rest_of f = record { p3 = f.p3; body = f.body.now; le = f.le }
