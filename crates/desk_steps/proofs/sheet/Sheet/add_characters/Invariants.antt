use Rattle.std.proofs.Common.{drop}
use Rattle.desk_steps.specs.declared.sheet.Sheet.{Sheet}
use Rattle.desk_steps.specs.Json.{characters}
use Rattle.desk_steps.specs.Sheets.{Adds}
use Rattle.desk_steps.proofs.sheet.Sheet.add_characters.Given as goal

-- what is added of the bytes that are left, is added of all bytes from the start
abbrev pub invariant-loop-byte : goal.invariant-loop-byte
invariant-loop-byte g l = record { rest : (r : Sheet g.row.T.Denot) → Adds g.T.Sink l.self (characters (drop l.byte-index l.text)) r → Adds g.T.Sink l.fn.self (characters l.text) r }
